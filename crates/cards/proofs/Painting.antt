-- Lemmas on the tables of a draft.
use Rattle.std.proofs.Common.{◌≡◌, ℕ, ◌-◌, ◌≤◌, Bool, true, cond, ◌&&◌, ltb, leb, List, [], ◌∷◌, ◌++◌, length, get_or, drop, replicate, sym, ap, ◌∙◌, ⊎_elim, arith, rules}
use borrow.Rule.Slice.PartMut.{mid_of, put_mid}
use Rattle.std.proofs.lemmas.List.{places, length-replicate, length-drop, length-take-le, get_or_append_left, get_or_push, length_push}
use Rattle.std.proofs.lemmas.Bool.{cases_lt}
use Rattle.std.proofs.lemmas.Bool.Decides.{nat_tests}
use Rattle.routine.specs.declared.rows.Row.{Row}
use Rattle.routine.specs.declared.rows.Row.TheVariants.{Halt}
use Rattle.routine.specs.Limits.{every}
use Rattle.routine.proofs.Limits.{every_from, every_at}

-- a part of the words has the label
pub painted : (labels written : List ℕ) (from to label : ℕ) → from ≤ to → to ≤ length labels
    → written ≡ replicate (length (mid_of from (to - from) labels)) label
    → (k : ℕ) → get_or (put_mid from (to - from) labels written) k 0 ≡ cond (leb from k && ltb k to) label (get_or labels k 0)
painted labels written from to label order inside is k =
    let wide : length written ≡ to - from =
    ap length is ∙ length-replicate (length (mid_of from (to - from) labels)) label
    ∙ length-take-le (to - from) (drop from labels) (simp length-drop (omega arith)) in
    ⊎_elim
    (λ below. search (rules, places, nat_tests))
    (λ above. ⊎_elim (λ here. search (rules, places, nat_tests)) (λ beyond. search (rules, places, nat_tests)) (cases_lt k to))
    (cases_lt k from)

-- a test that passes at all rows and at one more
pub every_push : (test : ℕ → Row → Bool) (rows : List Row) (row : Row) → every test 0 rows ≡ true → test (length rows) row ≡ true
    → every test 0 (rows ++ row ∷ []) ≡ true
every_push test rows row all last =
    every_from test (rows ++ row ∷ []) (λ j inside.
    ⊎_elim
    (λ before. ap (test j) (get_or_append_left rows (row ∷ []) Halt j before) ∙ every_at test rows all j before)
    (λ after.
    let here : length rows ≡ j = omega (arith, length_push rows row) in
    ap (test j) (get_or_push rows row Halt j here) ∙ ap (λ i. test i row) (sym here) ∙ last)
    (cases_lt j (length rows)))
