-- The relation between two machines that every step keeps.
use Rattle.std.specs.Prelude.{◌≡◌, ℕ, ◌^◌, ◌<◌, ◌≤◌, true, List, [], ◌∷◌, length, slice_index, slice_index_or, Some}
use Rattle.labels.specs.Kind.{Kind}
use Rattle.routine.specs.declared.rows.Row.{Row}
use Rattle.facts.specs.declared.types.Mode.{Mode}
use Rattle.facts.specs.declared.types.Mode.TheVariants.{Settled, Guessed}
use Rattle.facts.specs.declared.types.Known.{Known}
use Rattle.facts.specs.Order.{Fact, known_at}
use Rattle.facts.specs.Tables.{fact_at}
use Rattle.promise.specs.Moves.{Write}
use Rattle.promise.specs.Guessing.{Level, State}
use Rattle.promise.specs.Promise.{Agree}

module _ {L : Type 0} (K : Kind L) (labels : List L) (reader : L) where
  -- sixteen registers of 32 bits in each of two machines, under what is known of them
  pub record Pairs (ks : List (Known L)) (rs qs : List ℕ) : Type 0 where
    pub long : 16 ≤ length ks
    pub left_long : length rs ≡ 16
    pub right_long : length qs ≡ 16
    -- each is cut to 32 bits
    pub left_cut : (r : ℕ) → slice_index rs r < 2 ^ 32
    pub right_cut : (r : ℕ) → slice_index qs r < 2 ^ 32
    -- each is below two to its width
    pub left_holds : (r : ℕ) → slice_index rs r < 2 ^ (known_at K ks r).width
    pub right_holds : (r : ℕ) → slice_index qs r < 2 ^ (known_at K ks r).width
    -- they are equal where the reader may read what they depend on
    pub equal : (r : ℕ) → K.below (known_at K ks r).label reader ≡ true → slice_index rs r ≡ slice_index qs r

  -- two stores go to one address, and are equal where the reader may read that word
  pub record OneStore (w v : Write) : Type 0 where
    pub same_address : w.address ≡ v.address
    pub equal : w.address < length labels → K.below (slice_index_or labels w.address K.lowest) reader ≡ true → w.value ≡ v.value

  abbrev pub Stores : List Write → List Write → Type 0
  Stores [] [] = Unit {0}
  Stores [] (v ∷ vs) = ⊥
  Stores (w ∷ ws) [] = ⊥
  Stores (w ∷ ws) (v ∷ vs) = OneStore w v × Stores ws vs

  module _ (rows : List Row) (table : List (Fact L)) where
    -- a level of each machine: at one row, which is reached in its mode, with such registers and stores
    pub record Twins (m : Mode) (f g : Level) : Type 0 where
      pub same_row : f.row ≡ g.row
      pub inside : f.row < length rows
      pub known : List (Known L)
      pub reached : fact_at table f.row m ≡ Some known
      pub pairs : Pairs known f.registers g.registers
      pub stores : Stores f.stores g.stores

    -- all levels of both: the lowest settled, those above it guessed
    abbrev pub Stacks : Level → List Level → Level → List Level → Type 0
    Stacks f [] g [] = Twins Settled f g
    Stacks f [] g (g' ∷ gs) = ⊥
    Stacks f (f' ∷ fs) g [] = ⊥
    Stacks f (f' ∷ fs) g (g' ∷ gs) = Twins Guessed f g × Stacks f' fs g' gs

    -- the two machines: the same levels, finish and lists, and memories that agree wherever the reader may read
    pub record Related (s t : State) : Type 0 where
      pub stacks : Stacks s.top s.waiting t.top t.waiting
      pub finished : s.finished ≡ t.finished
      pub predictor : s.predictor ≡ t.predictor
      pub settler : s.settler ≡ t.settler
      pub size : length s.words ≡ length labels
      pub words : Agree K labels reader s.words t.words
