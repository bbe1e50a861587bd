use Rattle.std.proofs.Common.{rules}
use Rattle.std.proofs.lemmas.Iterator.{YieldsList-from_map}
use Rattle.std.proofs.lemmas.Iterator.Adapters.{items_from_extend}
use Rattle.std.proofs.lemmas.Iterator.Consumers.{YieldsList-at, YieldsList-from_filter}
use Rattle.std.proofs.lemmas.Iterator.Splits.{YieldsList-from_slice_split}
use Rattle.flip_certificate.specs.Reading.{number_of}
use Rattle.flip_certificate.proofs.GuessLaws.{apart, is_filled}
use Rattle.flip_certificate.proofs.guessing.numbers_in.Goals as goal
use borrow.Author.Tests.{tests}

pub returns : goal.returns
returns c =
    let h = items_from_extend c.extend.result c.extend.ensures.ran
    (YieldsList-from_map _ number_of (YieldsList-at c.map.ensures.source
    (YieldsList-from_filter _ is_filled (YieldsList-at c.filter.ensures.source
    (YieldsList-from_slice_split _ apart c.args.bytes.now c.split-runs.ensures.rest c.split-runs.ensures.done c.split-runs.ensures.closure (λ x r q k. search (rules, tests))))
    c.filter.ensures.closure (λ x r q k. search (rules, tests))))
    c.map.ensures.closure (λ x r q k. search (rules, tests))) in
    search rules
