-- What code finds in a window, word by word, is what the rules say of it.
use Rattle.std.proofs.Common.{◌≡◌, ℕ, ◌+◌, not, ◌&&◌, ◌||◌, List, [], ◌∷◌, refl, ap}
use Rattle.std.specs.List.{enumerate_from, list_any}
use Rattle.labels.specs.Kind.{Kind}
use Rattle.routine.specs.Address.{in_window}
use Rattle.facts.specs.Leaks.{spills_from}

module _ {L : Type 0} (K : Kind L) (words base width : ℕ) where
  pub spilt_words : (i : ℕ) (labels : List L) (l : L)
      → list_any (λ p. in_window words base width p.0 && not (K.below l p.1)) (enumerate_from i labels) ≡ spills_from K words base width i l labels
  spilt_words i [] l = refl
  spilt_words i (x ∷ xs) l = ap (λ b. (in_window words base width i && not (K.below l x)) || b) (spilt_words (i + 1) xs l)
