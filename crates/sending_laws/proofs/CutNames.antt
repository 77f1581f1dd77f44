-- The repartition topics that some stages write.
use Rattle.std.proofs.Common.{◌≡◌, ◌∙◌, ap, refl, sym, subst, suc, ◌+◌, List, [], ◌∷◌, ◌++◌, Bool, true, false, true≢false, inl, inr, arith}
use Rattle.std.specs.Prelude.{◌⊎◌, if◌then◌else◌, Some, slice_get}
use Rattle.topology.specs.Topologies.{cuts_of, is_same_cut, place_of}
use Rattle.topology.specs.declared.stage.CutName.{CutName}
use Rattle.topology.specs.declared.stage.CutName.TheVariants as cut
use Rattle.topology.specs.declared.stage.Link.{Link}
use Rattle.topology.specs.declared.stage.Link.TheVariants as link
use Rattle.topology.specs.declared.stage.Stage.{Stage}

-- a name is among those of some repartition topics
abbrev pub IsIn : CutName → List CutName → Type 0
IsIn name [] = ⊥
IsIn name (c ∷ cs) = (c ≡ name) ⊎ IsIn name cs

same-cut : (a b : CutName) → is_same_cut a b ≡ true → a ≡ b
same-cut cut.Left cut.Left is = refl
same-cut cut.Left cut.Right is = absurd (true≢false (sym is))
same-cut cut.Left cut.Group is = absurd (true≢false (sym is))
same-cut cut.Right cut.Left is = absurd (true≢false (sym is))
same-cut cut.Right cut.Right is = refl
same-cut cut.Right cut.Group is = absurd (true≢false (sym is))
same-cut cut.Group cut.Left is = absurd (true≢false (sym is))
same-cut cut.Group cut.Right is = absurd (true≢false (sym is))
same-cut cut.Group cut.Group is = refl

cut-itself : (a : CutName) → is_same_cut a a ≡ true
cut-itself cut.Left = refl
cut-itself cut.Right = refl
cut-itself cut.Group = refl

pub place-at : (name : CutName) (cuts : List CutName) → IsIn name cuts → slice_get cuts (place_of name cuts) ≡ Some name
place-at name [] is = absurd is
place-at name (c ∷ cs) is = by (is_same_cut c name) refl is (place-at name cs)
  where
    by : (b : Bool) → is_same_cut c name ≡ b → (c ≡ name) ⊎ IsIn name cs → (IsIn name cs → slice_get cs (place_of name cs) ≡ Some name) →
        slice_get (c ∷ cs) (if b then 0 else 1 + place_of name cs) ≡ Some name
    by true test is rest = ap Some (same-cut c name test)
    by false test (inl same) rest = absurd (true≢false (sym (ap (λ x. is_same_cut x name) same ∙ cut-itself name) ∙ test))
    by false test (inr later) rest = let next : 1 + place_of name cs ≡ suc (place_of name cs) = omega arith in ap (slice_get (c ∷ cs)) next ∙ rest later

pub front-in : (name : CutName) (xs ys : List Stage) → IsIn name (cuts_of xs) → IsIn name (cuts_of (xs ++ ys))
front-in name [] ys is = absurd is
front-in name (x ∷ xs) ys is = by x.output is (front-in name xs ys)
  where
    by : (output : Link) → IsIn name (cuts_of (record x { output = output } ∷ xs)) → (IsIn name (cuts_of xs) → IsIn name (cuts_of (xs ++ ys))) →
        IsIn name (cuts_of (record x { output = output } ∷ (xs ++ ys)))
    by (link.Relation r) is rest = rest is
    by (link.Cut c r) (inl same) rest = inl same
    by (link.Cut c r) (inr later) rest = inr (rest later)

pub back-in : (name : CutName) (xs ys : List Stage) → IsIn name (cuts_of ys) → IsIn name (cuts_of (xs ++ ys))
back-in name [] ys is = is
back-in name (x ∷ xs) ys is = by x.output (back-in name xs ys is)
  where
    by : (output : Link) → IsIn name (cuts_of (xs ++ ys)) → IsIn name (cuts_of (record x { output = output } ∷ (xs ++ ys)))
    by (link.Relation r) is = is
    by (link.Cut c r) is = inr is

pub if-in : (name : CutName) (b wanted : Bool) → b ≡ wanted → (xs ys : List Stage) → IsIn name (cuts_of (if wanted then xs else ys)) → IsIn name (cuts_of (if b then xs else ys))
if-in name b wanted test xs ys is = subst (λ t. IsIn name (cuts_of (if t then xs else ys))) (sym test) is
