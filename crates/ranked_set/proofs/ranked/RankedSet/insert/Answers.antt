use Rattle.std.proofs.Common.{◌≡◌, ◌+◌, ◌∙◌, sym, ap, false, length, arith}
use Rattle.simplex.specs.InOrder.{is_member}
use Rattle.simplex.specs.Simplex.{simplex_cmp}
use Rattle.ranked_set.specs.Blocks.{joined}
use Rattle.ranked_set.proofs.ExcessLaws.{length_most}
use Rattle.ranked_set.proofs.SearchLaws.{length-put_new}
use Rattle.ranked_set.proofs.ranked.RankedSet.insert.Goals as goal

pub overflow_add-self : goal.overflow_add-self
overflow_add-self g c =
    omega (arith, c.self.invariant.len_is, length_most c.self.inside.blocks.items c.self.invariant.short, c.self.inside.blocks.ok.0, c.self.invariant.few)

pub invariant_of-self : goal.invariant_of-self
invariant_of-self g c =
    let absent : is_member simplex_cmp c.of.result (joined c.self.inside.blocks.items) ≡ false =
    ap (λ s. is_member simplex_cmp s (joined c.self.inside.blocks.items)) c.of.ensures.value ∙ ap (λ v. is_member simplex_cmp c.args.s.now v.members) c.self.view_is ∙ c.requires.new in
    record {
      ranked = c.put_in.ensures.ranked;
      short = c.put_in.ensures.short;
      len_is = ap (λ n. n + 1) c.self.invariant.len_is ∙ sym (length-put_new c.of.result (joined c.self.inside.blocks.items) absent) ∙ sym (ap length c.put_in.ensures.members);
      room = omega (arith, c.put_in.ensures.sum, c.put_in.ensures.capacity, c.self.invariant.room);
      few = omega (arith, c.put_in.ensures.sum, c.self.invariant.few);
      start = λ e. absurd (omega (arith, e, c.put_in.ensures.some));
    }
