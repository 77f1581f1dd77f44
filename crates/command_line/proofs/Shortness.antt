-- What clap cuts off a word is no longer than the word.
use Rattle.std.proofs.Common.{◌≤◌, ◌==◌, ℕ, Bool, true, false, List, [], ◌∷◌, ◌++◌, length, cond, drop, Option, Some, None, arith, length-drop}
use Rattle.std.specs.Option.{IfSome, option_and_then, option_map_or}
use Rattle.std.specs.List.{AllByRecursion, after_first}
use Rattle.clap.specs.Lexer.{has_byte, long_of, long_of_rest, short_of, short_of_rest, strip_byte}
use Rattle.clap.specs.Walk.{Text, attached_value, nonempty}

-- the text has at most n bytes
abbrev pub IsShort : ℕ → Text → Type 0
IsShort most text = length text ≤ most

-- each of the texts does
abbrev pub AreShort : ℕ → List Text → Type 0
AreShort most texts = AllByRecursion (IsShort most) texts

-- a value that goes with an option's name, if any
abbrev pub IsShortValue : ℕ → Text × Option Text → Type 0
IsShortValue most met = IfSome met.1 (IsShort most)

pub one_more_short : (most : ℕ) (texts : List Text) (text : Text) → AreShort most texts → IsShort most text → AreShort most (texts ++ text ∷ [])
one_more_short most [] text all is = (is, tt)
one_more_short most (x ∷ xs) text all is = (all.0, one_more_short most xs text all.1 is)

pub dropped_short : (most k : ℕ) (text : Text) → IsShort most text → IsShort most (drop k text)
dropped_short most k text is = omega (arith, length-drop k text)

-- the result of a function on an optional value
pub then_some : {A B : Type 0} (P : A → Type 0) (Q : B → Type 0) (f : A → Option B) (o : Option A) → ((x : A) → P x → IfSome (f x) Q) → IfSome o P
    → IfSome (option_and_then f o) Q
then_some P Q f None each is = tt
then_some P Q f (Some x) each is = each x is

strip_short : (most byte : ℕ) (text : Text) → IsShort most text → IfSome (strip_byte byte text) (IsShort most)
strip_short most byte [] is = tt
strip_short most byte (x ∷ xs) is = go (x == byte)
  where
    go : (b : Bool) → IfSome (cond b (Some xs) None) (IsShort most)
    go true = omega arith
    go false = tt

named_short : (most : ℕ) (text : Text) → IsShort most text → IfSome (long_of_rest text) (IsShortValue most)
named_short most [] is = tt
named_short most (x ∷ xs) is = go (has_byte 61 (x ∷ xs))
  where
    go : (b : Bool) → IfSome (cond b (Some (after_first (λ y. y == 61) (x ∷ xs))) None) (IsShort most)
    go true = dropped_short most _ (x ∷ xs) is
    go false = tt

pub long_short : (most : ℕ) (word : Text) → IsShort most word → IfSome (long_of word) (IsShortValue most)
long_short most word is =
    then_some (IsShort most) (IsShortValue most) long_of_rest _ (named_short most)
    (then_some (IsShort most) (IsShort most) (strip_byte 45) _ (strip_short most 45) (strip_short most 45 word is))

bundle_short : (most : ℕ) (text : Text) → IsShort most text → IfSome (short_of_rest text) (IsShort most)
bundle_short most [] is = tt
bundle_short most (x ∷ xs) is = go (x == 45)
  where
    go : (b : Bool) → IfSome (cond b None (Some (x ∷ xs))) (IsShort most)
    go true = tt
    go false = is

pub short_short : (most : ℕ) (word : Text) → IsShort most word → IfSome (short_of word) (IsShort most)
short_short most word is = then_some (IsShort most) (IsShort most) short_of_rest _ (bundle_short most) (strip_short most 45 word is)

pub attached_short : (most : ℕ) (rest : Text) → IsShort most rest → IfSome (attached_value rest) (IsShort most)
attached_short most [] is = tt
attached_short most (x ∷ xs) is = go (x == 61)
  where
    go : (b : Bool) → IfSome (option_map_or (λ v. Some v) (cond b (Some xs) None) (nonempty (x ∷ xs))) (IsShort most)
    go true = omega arith
    go false = is
