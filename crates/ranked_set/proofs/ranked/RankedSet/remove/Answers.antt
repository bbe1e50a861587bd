use Rattle.std.proofs.Common.{◌≡◌, ◌∙◌, ap, true, length, arith}
use Rattle.simplex.specs.InOrder.{is_member}
use Rattle.simplex.specs.Simplex.{simplex_cmp}
use Rattle.ranked_set.specs.Blocks.{joined}
use Rattle.ranked_set.proofs.SearchLaws.{length-but, member_at}
use Rattle.ranked_set.proofs.ranked.RankedSet.remove.Goals as goal

pub invariant_of-self : goal.invariant_of-self
invariant_of-self g c =
    let there : is_member simplex_cmp c.of.result (joined c.self.inside.blocks.items) ≡ true =
    ap (λ s. is_member simplex_cmp s (joined c.self.inside.blocks.items)) c.of.ensures.value ∙ ap (λ v. is_member simplex_cmp c.args.s.now v.members) c.self.view_is ∙ c.requires in
    let fewer = length-but c.of.result (joined c.self.inside.blocks.items) c.self.invariant.ranked.rising (member_at c.of.result (joined c.self.inside.blocks.items) there) in
    let left = ap length c.take_from.ensures.members in
    record {
      ranked = c.take_from.ensures.ranked;
      short = c.take_from.ensures.short;
      len_is = omega (arith, c.self.invariant.len_is, fewer, left);
      room = omega (arith, c.take_from.ensures.len, c.take_from.ensures.capacity, c.self.invariant.room);
      few = omega (arith, c.take_from.ensures.len, c.self.invariant.few);
      start = λ e. absurd (omega (arith, e, c.take_from.ensures.some));
    }
