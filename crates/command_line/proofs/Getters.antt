-- What the getters of matches read, by the matches' rows.
use Rattle.std.proofs.Common.{◌≡◌, ◌∙◌, ℕ, Bool, true, false, List, [], Option, Some, None, Result, Ok, refl, sym, ap, codes}
use Rattle.std.specs.Option.{option_map, option_map_or, unwrap_or}
use Rattle.std.specs.Borrow.{Bor}
use Rattle.std.specs.Str.{bytes_eq}
use Rattle.std.specs.Str.Parse.{ParsesBool, ParsesUnsigned}
use Rattle.std.proofs.lemmas.Slice.Eq.{bytes_eq-Decides}
use Rattle.clap.specs.Words.{Text}
use Rattle.clap.specs.Matches.{ReadsOne}
use Rattle.command_line.specs.Words.{IsNumber, number_in}

-- a text, or the empty one
pub text_or_empty : (text : Option (Bor Text)) (empty read : Bor Text) → read ≡ unwrap_or text empty → empty.now ≡ []
    → read.now ≡ unwrap_or (option_map (λ t. t.now) text) []
text_or_empty None empty read is none = ap (λ t. t.now) is ∙ none
text_or_empty (Some t) empty read is none = ap (λ r. r.now) is

-- the number that a text spells, or else 1
pub number_or_one : {E : Type 0} (gives : List ℕ → Result ℕ E → Type 0) (text : Option Text) (read : Option ℕ)
    → ((t : Text) (x : Result ℕ E) → gives t x → ParsesUnsigned 32 10 t x) → (text ≡ None → read ≡ None)
    → ((t : Text) → text ≡ Some t → ReadsOne gives t read) → IsNumber text → unwrap_or read 1 ≡ option_map_or number_in text 1
number_or_one gives None read only none some is = ap (λ r. unwrap_or r 1) (none refl)
number_or_one gives (Some t) (Some n) only none some is = (only t (Ok n) (some t refl)).1
number_or_one gives (Some t) None only none some is =
    let refused = some t refl in
    absurd (only t _ refused.1 is)

-- a flag that is read of a text, or else false
pub flag_or_false : {E : Type 0} (gives : List ℕ → Result Bool E → Type 0) (text : Option Text) (read : Option Bool)
    → ((t : Text) (x : Result Bool E) → gives t x → ParsesBool t x) → (text ≡ None → read ≡ None)
    → ((t : Text) → text ≡ Some t → ReadsOne gives t read)
    → unwrap_or read false ≡ option_map_or (λ t. bytes_eq t (codes "true")) text false
flag_or_false gives None read only none some = ap (λ r. unwrap_or r false) (none refl)
flag_or_false gives (Some t) (Some true) only none some =
    let is : t ≡ codes "true" = only t (Ok true) (some t refl) in
    sym (ap (λ w. bytes_eq w (codes "true")) is)
flag_or_false gives (Some t) (Some false) only none some =
    let is : t ≡ codes "false" = only t (Ok false) (some t refl) in
    sym (ap (λ w. bytes_eq w (codes "true")) is)
flag_or_false gives (Some t) None only none some = go (bytes_eq t (codes "true")) refl
  where
    go : (b : Bool) → bytes_eq t (codes "true") ≡ b → false ≡ bytes_eq t (codes "true")
    go false e = sym e
    go true e =
        let refused = some t refl in
        absurd ((only t _ refused.1).0 ((bytes_eq-Decides t (codes "true")).0 e))
