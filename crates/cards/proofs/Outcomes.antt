-- What an outcome that is no refusal says of the steps that led to it.
use Rattle.std.proofs.Common.{◌≡◌, ℕ, Bool, true, false, cond, Some, None, Ok, Err, Option, Result, sym, refl, ap, arith}
use Rattle.std.specs.Option.{ok_or}
use Rattle.refusals.specs.declared.cards.Cause.{Cause}
use Rattle.cards.specs.Heads.{and_then}
use Rattle.cards.specs.Rows.{map_ok, three}

-- two outcomes that are equal, and two that never are
pub same_ok : {A E : Type 0} (x y : A) → ◌≡◌ {A = Result A E} (Ok x) (Ok y) → x ≡ y
same_ok x y is = cc

pub never_ok : {A E : Type 0} (P : Type 0) (e : E) (x : A) → ◌≡◌ {A = Result A E} (Err e) (Ok x) → P
never_ok P e x is = let z : ◌≡◌ {A = ℕ} 0 1 = cc in absurd (omega arith)

pub never_some : {A : Type 0} (P : Type 0) (x : A) → ◌≡◌ {A = Option A} None (Some x) → P
never_some P x is = let z : ◌≡◌ {A = ℕ} 0 1 = cc in absurd (omega arith)

-- a test that had to come out true, or false
pub passed : {A E : Type 0} (b : Bool) (r : Result A E) (e : E) (x : A) → cond b r (Err e) ≡ Ok x → (b ≡ true) × (r ≡ Ok x)
passed true r e x is = (refl, is)
passed false r e x is = never_ok _ e x is

pub passed_not : {A E : Type 0} (b : Bool) (r : Result A E) (e : E) (x : A) → cond b (Err e) r ≡ Ok x → (b ≡ false) × (r ≡ Ok x)
passed_not true r e x is = never_ok _ e x is
passed_not false r e x is = (refl, is)

-- the step before
pub then_steps : {A B E : Type 0} (r : Result A E) (next : A → Result B E) (y : B) → and_then r next ≡ Ok y → (x : A) × (r ≡ Ok x) × (next x ≡ Ok y)
then_steps (Ok x) next y is = (x, refl, is)
then_steps (Err e) next y is = never_ok _ e y is

-- a value that had to be there, and the step after it
pub there : {A E : Type 0} (e : E) (o : Option A) (x : A) → ok_or o e ≡ Ok x → o ≡ Some x
there e None x is = never_ok _ e x is
there e (Some y) x is = cc

pub not_there : {A E : Type 0} (e d : E) (o : Option A) → ok_or o e ≡ Err d → (o ≡ None) × (e ≡ d)
not_there e d None is = (refl, cc)
not_there e d (Some x) is = never_ok _ _ _ (sym is)

pub there_then : {A B E : Type 0} (e : E) (o : Option A) (x : A) (next : A → Result B E) → o ≡ Some x → and_then (ok_or o e) next ≡ next x
there_then e o x next is = ap (λ o. and_then (ok_or o e) next) is

-- what a row was made of
pub map_step : {A B E : Type 0} (r : Result A E) (f : A → B) (y : B) → map_ok r f ≡ Ok y → (x : A) × (r ≡ Ok x) × (f x ≡ y)
map_step (Ok x) f y is = (x, refl, same_ok _ _ is)
map_step (Err e) f y is = never_ok _ e y is

pub map_err : {A B E : Type 0} (r : Result A E) (f : A → B) (e : E) → map_ok r f ≡ Err e → r ≡ Err e
map_err (Ok x) f e is = never_ok _ _ _ (sym is)
map_err (Err d) f e is = cc

-- a value that was read, as something else, and under another refusal
pub mapped : {A B E F : Type 0} (f : A → B) (g : E → F) (r : Result A E) (y : B)
    → ◌≡◌ {A = Result B F} (elim r [ Ok x ↦ Ok (f x) | Err e ↦ Err (g e) ]) (Ok y) → (x : A) × (r ≡ Ok x) × (f x ≡ y)
mapped f g (Ok x) y is = (x, refl, same_ok _ _ is)
mapped f g (Err e) y is = never_ok _ _ _ is

-- a value that had not to be there
pub not_found : {A B E : Type 0} (g : A → E) (r : Result B E) (o : Option A) (y : B)
    → ◌≡◌ {A = Result B E} (elim o [ None ↦ r | Some x ↦ Err (g x) ]) (Ok y) → (o ≡ None) × (r ≡ Ok y)
not_found g r None y is = (refl, is)
not_found g r (Some x) y is = never_ok _ _ _ is

-- the three fields of a row
pub three_steps : {A B C : Type 0} (a : Result A Cause) (b : Result B Cause) (c : Result C Cause) (xyz : A × B × C) → three a b c ≡ Ok xyz
    → (a ≡ Ok xyz.0) × (b ≡ Ok xyz.1) × (c ≡ Ok xyz.2)
three_steps {A} {B} {C} (Ok x) (Ok y) (Ok z) xyz is =
    let same = same_ok (x, y, z) xyz is in
    (ap (λ (read : A × B × C). Ok read.0) same, ap (λ (read : A × B × C). Ok read.1) same, ap (λ (read : A × B × C). Ok read.2) same)
three_steps (Ok x) (Ok y) (Err e) xyz is = never_ok _ _ _ is
three_steps (Ok x) (Err e) c xyz is = never_ok _ _ _ is
three_steps (Err e) b c xyz is = never_ok _ _ _ is
