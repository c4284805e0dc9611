use Rattle.std.proofs.Common.{◌≡◌, length, sym, ◌∙◌, arith, rules}
use Rattle.std.proofs.lemmas.List.{same_lists}
use Rattle.facts.specs.Order.{knows, join_all}
use Rattle.facts.proofs.Lists.{joined_length, joined_at, bounded_from}
use Rattle.facts.proofs.order.all_joined.Goals as goal

pub returns : goal.returns
returns g c =
    let K = g.L.Label.kind in
    let one = c.args.one.now in
    let other = c.args.other.now in
    let long : length c.loop-i.joined ≡ 16 = c.loop-i.invariant.0 in
    let a-long : length one ≡ 16 = search rules in
    let b-long : length other ≡ 16 = search rules in
    let d = knows K.lowest 0 in
    record {
      value = same_lists c.loop-i.joined (join_all K one other) (omega (arith, long, a-long, joined_length K one other (omega (arith, a-long, b-long))))
          (λ k d h. c.loop-i.invariant.1 k d (omega (arith, h, long, c.loop-i-test.false))
          ∙ sym (joined_at K one other k d (omega (arith, h, long, a-long)) (omega (arith, h, long, b-long))));
      bounded = bounded_from K c.loop-i.joined d (λ k h. c.loop-i.invariant.2 k d (omega (arith, h, long, c.loop-i-test.false)));
      long = (a-long, b-long);
    }
