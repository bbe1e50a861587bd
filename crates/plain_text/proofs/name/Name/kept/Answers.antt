use Rattle.std.proofs.Common.{refl, subst, sym, List, ℕ, ◌++◌, length, drop, replicate}
use Rattle.plain_text.specs.Name.{IsNamed}
use Rattle.plain_text.proofs.BytesLaws.{named_cells}
use Rattle.plain_text.proofs.name.Name.kept.Goals as goal

pub invariant_of-result : goal.invariant_of-result
invariant_of-result c =
    let w : List ℕ = c.args.bytes.now in
    let zeros : List ℕ = replicate 32 0 in
    subst (λ (v : List ℕ). IsNamed (v ++ drop (length w) zeros) (length w)) (sym c.fill.ensures) (named_cells w zeros refl c.requires)
