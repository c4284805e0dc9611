use Rattle.std.proofs.Common.{◌≡◌, ℕ, ◌<◌, ◌≤◌, length, get_or}
use Rattle.facts.specs.declared.types.Known.{Known}
use Rattle.facts.specs.Order.{join_known}
use Rattle.facts.proofs.order.all_joined.Given as goal

abbrev pub invariant-loop-i : goal.invariant-loop-i
invariant-loop-i g l =
    let K = g.L.Label.kind in
    (length l.joined ≡ 16)
    × ((k : ℕ) (d : Known g.row.L.Denot) → k < l.i → get_or l.joined k d ≡ join_known K (get_or l.a k d) (get_or l.b k d))
    × ((k : ℕ) (d : Known g.row.L.Denot) → k < l.i → (K.rank (get_or l.joined k d).label ≤ K.greatest) × ((get_or l.joined k d).width ≤ 255))
