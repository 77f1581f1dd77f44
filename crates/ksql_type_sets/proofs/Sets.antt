-- What is in the sets of types: exactly what the rules give of the types of the parts.
use Rattle.std.proofs.Common.{◌≡◌, inl, inr, suc, Bool, true, false, ◌&&◌, nat_le, List, [], ◌∷◌, ◌++◌, length, Option, Some, None, refl, ap, sym, ◌∙◌}
use Rattle.std.specs.Prelude.{option_and_then}
use Rattle.std.specs.List.{list_any, list_all}
use Rattle.std.proofs.lemmas.Bool.{and_parts, and_from, or_cases, or_left, or_right}
use Rattle.ksql_types.specs.declared.value.SqlType.{SqlType}
use Rattle.ksql_types.specs.declared.value.SqlType.TheVariants as sql
use Rattle.ksql_expr.specs.declared.typed.Fun.{Fun}
use Rattle.ksql_expr.specs.declared.typed.Fun.TheVariants as fun
use Rattle.ksql_expr.specs.Rules.{same_type, fun_type, joint, joint_type, typed, fits, given}
use Rattle.ksql_type_sets.specs.declared.possible.Types.{Types}
use Rattle.ksql_type_sets.specs.Sets.{kinds, has, collect, some_in, is_same, is_found, each_in, joint_types, fun_types, fixed_can}

-- ---- one type

pub has-collect : (p : Option SqlType → Bool) (t : Option SqlType) → has (collect p) t ≡ p t
has-collect p None = refl
has-collect p (Some sql.Int) = refl
has-collect p (Some sql.Big) = refl
has-collect p (Some sql.Text) = refl
has-collect p (Some sql.Bool) = refl

pub type-same : (a b : SqlType) → same_type a b ≡ true → a ≡ b
type-same sql.Int sql.Int h = refl
type-same sql.Int sql.Big h = absurd (cc (h))
type-same sql.Int sql.Text h = absurd (cc (h))
type-same sql.Int sql.Bool h = absurd (cc (h))
type-same sql.Big sql.Int h = absurd (cc (h))
type-same sql.Big sql.Big h = refl
type-same sql.Big sql.Text h = absurd (cc (h))
type-same sql.Big sql.Bool h = absurd (cc (h))
type-same sql.Text sql.Int h = absurd (cc (h))
type-same sql.Text sql.Big h = absurd (cc (h))
type-same sql.Text sql.Text h = refl
type-same sql.Text sql.Bool h = absurd (cc (h))
type-same sql.Bool sql.Int h = absurd (cc (h))
type-same sql.Bool sql.Big h = absurd (cc (h))
type-same sql.Bool sql.Text h = absurd (cc (h))
type-same sql.Bool sql.Bool h = refl

pub same-type : (a : SqlType) → same_type a a ≡ true
same-type sql.Int = refl
same-type sql.Big = refl
same-type sql.Text = refl
same-type sql.Bool = refl

pub is-same : (a b : Option SqlType) → is_same a b ≡ true → a ≡ b
is-same None None h = refl
is-same None (Some b) h = absurd (cc (h))
is-same (Some a) None h = absurd (cc (h))
is-same (Some a) (Some b) h = ap (λ t. Some t) (type-same a b h)

pub same-self : (a : Option SqlType) → is_same a a ≡ true
same-self None = refl
same-self (Some a) = same-type a

pub found-is : (o : Option (Option SqlType)) (t : Option SqlType) → is_found o t ≡ true → o ≡ Some t
found-is None t h = absurd (cc (h))
found-is (Some u) t h = ap (λ v. Some v) (is-same u t h)

pub found-from : (o : Option (Option SqlType)) (t : Option SqlType) → o ≡ Some t → is_found o t ≡ true
found-from o t h = ap (λ v. is_found v t) h ∙ same-self t

-- ---- one of a set

any-at : (q : Option SqlType → Bool) (ks : List (Option SqlType)) → list_any q ks ≡ true → (t : Option SqlType) × (q t ≡ true)
any-at q [] h = absurd (cc (h))
any-at q (k ∷ ks) h = elim (or_cases (q k) (list_any q ks) h) [ inl e ↦ (k, e) | inr e ↦ any-at q ks e ]

pub some-in : (a : Types) (p : Option SqlType → Bool) → some_in a p ≡ true → (t : Option SqlType) × (has a t ≡ true) × (p t ≡ true)
unfolding some_in
some-in a p h =
    let r = any-at (λ t. has a t && p t) kinds h in
    let k = and_parts (has a r.0) (p r.0) r.1 in
    (r.0, k.0, k.1)

at-kind : (q : Option SqlType → Bool) (t : Option SqlType) → q t ≡ true → list_any q kinds ≡ true
at-kind q None h = or_left (q None) _ h
at-kind q (Some sql.Int) h = or_right (q None) _ (or_left (q (Some sql.Int)) _ h)
at-kind q (Some sql.Big) h = or_right (q None) _ (or_right (q (Some sql.Int)) _ (or_left (q (Some sql.Big)) _ h))
at-kind q (Some sql.Text) h =
    or_right (q None) _ (or_right (q (Some sql.Int)) _ (or_right (q (Some sql.Big)) _ (or_left (q (Some sql.Text)) _ h)))
at-kind q (Some sql.Bool) h =
    or_right (q None) _ (or_right (q (Some sql.Int)) _ (or_right (q (Some sql.Big)) _ (or_right (q (Some sql.Text)) _ (or_left (q (Some sql.Bool)) _ h))))

pub some-from : (a : Types) (p : Option SqlType → Bool) (t : Option SqlType) → has a t ≡ true → p t ≡ true → some_in a p ≡ true
unfolding some_in
some-from a p t h k = at-kind (λ u. has a u && p u) t (and_from (has a t) (p t) h k)

-- one of each set
abbrev pub AllHave : List Types → List (Option SqlType) → Type 0
AllHave [] [] = Unit {0}
AllHave [] (t ∷ ts) = ⊥
AllHave (a ∷ sets) [] = ⊥
AllHave (a ∷ sets) (t ∷ ts) = (has a t ≡ true) × AllHave sets ts

pub each-in : (p : Option SqlType → Bool) (sets : List Types) → each_in p sets ≡ true
    → (ts : List (Option SqlType)) × AllHave sets ts × (list_all p ts ≡ true)
each-in p [] h = ([], tt, refl)
each-in p (a ∷ sets) h =
    let k = and_parts (some_in a p) (each_in p sets) h in
    let x = some-in a p k.0 in
    let r = each-in p sets k.1 in
    (x.0 ∷ r.0, (x.1, r.1), and_from (p x.0) (list_all p r.0) x.2 r.2)

pub each-from : (p : Option SqlType → Bool) (sets : List Types) (ts : List (Option SqlType)) → AllHave sets ts → list_all p ts ≡ true
    → each_in p sets ≡ true
each-from p [] [] h k = refl
each-from p [] (t ∷ ts) h k = absurd h
each-from p (a ∷ sets) [] h k = absurd h
each-from p (a ∷ sets) (t ∷ ts) h k =
    let r = and_parts (p t) (list_all p ts) k in
    and_from (some_in a p) (each_in p sets) (some-from a p t h.0 r.0) (each-from p sets ts h.1 r.1)

pub lengths : (sets : List Types) (ts : List (Option SqlType)) → AllHave sets ts → length sets ≡ length ts
lengths [] [] h = refl
lengths [] (t ∷ ts) h = absurd h
lengths (a ∷ sets) [] h = absurd h
lengths (a ∷ sets) (t ∷ ts) h = ap (λ n. suc n) (lengths sets ts h.1)

pub all-behind : (sets : List Types) (ts : List (Option SqlType)) (a : Types) (t : Option SqlType) → AllHave sets ts → has a t ≡ true
    → AllHave (sets ++ a ∷ []) (ts ++ t ∷ [])
all-behind [] [] a t h k = (k, tt)
all-behind [] (u ∷ ts) a t h k = absurd h
all-behind (b ∷ sets) [] a t h k = absurd h
all-behind (b ∷ sets) (u ∷ ts) a t h k = (h.0, all-behind sets ts a t h.1 k)

pub all-front : (sets : List Types) (a : Types) (ts : List (Option SqlType)) → AllHave (sets ++ a ∷ []) ts
    → (us : List (Option SqlType)) × (t : Option SqlType) × (ts ≡ us ++ t ∷ []) × AllHave sets us × (has a t ≡ true)
all-front [] a [] h = absurd h
all-front [] a (t ∷ []) h = ([], t, refl, tt, h.0)
all-front [] a (t ∷ u ∷ ts) h = absurd h.1
all-front (b ∷ sets) a [] h = absurd h
all-front (b ∷ sets) a (t ∷ ts) h =
    let r = all-front sets a ts h.1 in
    (t ∷ r.0, r.1, ap (λ us. t ∷ us) r.2, (h.0, r.3), r.4)

-- ---- the joint type

bound : {A B : Type 0} (o : Option A) (f : A → Option B) (b : B) → option_and_then f o ≡ Some b → (a : A) × (o ≡ Some a) × (f a ≡ Some b)
bound None f b h = absurd (cc (h))
bound (Some a) f b h = (a, refl, h)

pub joint-is : (sets : List Types) (t : Option SqlType) → has (joint_types sets) t ≡ true
    → (ts : List (Option SqlType)) × AllHave sets ts × (joint_type ts ≡ Some t)
joint-is [] t h =
    let e : is_same None t ≡ true = sym (has-collect (λ u. true && is_same None u) t) ∙ h in
    ([], tt, ap (λ u. Some u) (is-same None t e))
joint-is (a ∷ sets) t h =
    let e = sym (has-collect (λ u. some_in a (λ x. some_in (joint_types sets) (λ y. is_found (joint x y) u))) t) ∙ h in
    let x = some-in a (λ x. some_in (joint_types sets) (λ y. is_found (joint x y) t)) e in
    let y = some-in (joint_types sets) (λ y. is_found (joint x.0 y) t) x.2 in
    let r = joint-is sets y.0 y.1 in
    (x.0 ∷ r.0, (x.1, r.1), ap (option_and_then (joint x.0)) r.2 ∙ found-is (joint x.0 y.0) t y.2)

pub joint-from : (sets : List Types) (ts : List (Option SqlType)) (t : Option SqlType) → AllHave sets ts → joint_type ts ≡ Some t
    → has (joint_types sets) t ≡ true
joint-from [] [] t h k = has-collect (λ u. true && is_same None u) t ∙ found-from (Some None) t k
joint-from [] (u ∷ ts) t h k = absurd h
joint-from (a ∷ sets) [] t h k = absurd h
joint-from (a ∷ sets) (u ∷ ts) t h k =
    let r = bound (joint_type ts) (joint u) t k in
    has-collect (λ v. some_in a (λ x. some_in (joint_types sets) (λ y. is_found (joint x y) v))) t
    ∙ some-from a (λ x. some_in (joint_types sets) (λ y. is_found (joint x y) t)) u h.0
    (some-from (joint_types sets) (λ y. is_found (joint u y) t) r.0 (joint-from sets ts r.0 h.1 r.1) (found-from (joint u r.0) t r.2))

-- ---- functions

no-true : (t : Option SqlType) → has (collect (λ u. false && is_same None u)) t ≡ true → ⊥
no-true t h = let e : false ≡ true = sym (has-collect (λ u. false && is_same None u) t) ∙ h in cc

given-is : (b : Bool) (u : SqlType) (t : Option SqlType) → typed (given b u) ≡ Some t → (b ≡ true) × (Some u ≡ t)
given-is true u t h = (refl, cc)
given-is false u t h = absurd (cc (h))

fixed-is : (f : Fun) (sets : List Types) (t : Option SqlType) → fixed_can f sets t ≡ true
    → (ts : List (Option SqlType)) × AllHave sets ts × (fun_type f ts ≡ Some t)
fixed-is f [] t h = absurd (cc (h))
fixed-is f (a ∷ []) t h =
    let x = some-in a (λ x. is_found (fun_type f (x ∷ [])) t) h in
    (x.0 ∷ [], (x.1, tt), found-is (fun_type f (x.0 ∷ [])) t x.2)
fixed-is f (a ∷ b ∷ []) t h =
    let x = some-in a (λ x. some_in b (λ y. is_found (fun_type f (x ∷ y ∷ [])) t)) h in
    let y = some-in b (λ y. is_found (fun_type f (x.0 ∷ y ∷ [])) t) x.2 in
    (x.0 ∷ y.0 ∷ [], (x.1, (y.1, tt)), found-is (fun_type f (x.0 ∷ y.0 ∷ [])) t y.2)
fixed-is f (a ∷ b ∷ c ∷ []) t h =
    let x = some-in a (λ x. some_in b (λ y. some_in c (λ z. is_found (fun_type f (x ∷ y ∷ z ∷ [])) t))) h in
    let y = some-in b (λ y. some_in c (λ z. is_found (fun_type f (x.0 ∷ y ∷ z ∷ [])) t)) x.2 in
    let z = some-in c (λ z. is_found (fun_type f (x.0 ∷ y.0 ∷ z ∷ [])) t) y.2 in
    (x.0 ∷ y.0 ∷ z.0 ∷ [], (x.1, (y.1, (z.1, tt))), found-is (fun_type f (x.0 ∷ y.0 ∷ z.0 ∷ [])) t z.2)
fixed-is f (a ∷ b ∷ c ∷ d ∷ sets) t h = absurd (cc (h))

fixed-from : (f : Fun) → fun_type f [] ≡ None
    → ((w x y z : Option SqlType) (ts : List (Option SqlType)) → fun_type f (w ∷ x ∷ y ∷ z ∷ ts) ≡ None)
    → (sets : List Types) (ts : List (Option SqlType)) (t : Option SqlType) → AllHave sets ts → fun_type f ts ≡ Some t
    → fixed_can f sets t ≡ true
fixed-from f none many [] [] t h k = let e : None ≡ Some t = sym none ∙ k in absurd (cc (e))
fixed-from f none many [] (x ∷ ts) t h k = absurd h
fixed-from f none many (a ∷ sets) [] t h k = absurd h
fixed-from f none many (a ∷ []) (x ∷ []) t h k =
    some-from a (λ x. is_found (fun_type f (x ∷ [])) t) x h.0 (found-from (fun_type f (x ∷ [])) t k)
fixed-from f none many (a ∷ []) (x ∷ y ∷ ts) t h k = absurd h.1
fixed-from f none many (a ∷ b ∷ sets) (x ∷ []) t h k = absurd h.1
fixed-from f none many (a ∷ b ∷ []) (x ∷ y ∷ []) t h k =
    some-from a (λ x. some_in b (λ y. is_found (fun_type f (x ∷ y ∷ [])) t)) x h.0
    (some-from b (λ y. is_found (fun_type f (x ∷ y ∷ [])) t) y h.1.0 (found-from (fun_type f (x ∷ y ∷ [])) t k))
fixed-from f none many (a ∷ b ∷ []) (x ∷ y ∷ z ∷ ts) t h k = absurd h.1.1
fixed-from f none many (a ∷ b ∷ c ∷ sets) (x ∷ y ∷ []) t h k = absurd h.1.1
fixed-from f none many (a ∷ b ∷ c ∷ []) (x ∷ y ∷ z ∷ []) t h k =
    some-from a (λ x. some_in b (λ y. some_in c (λ z. is_found (fun_type f (x ∷ y ∷ z ∷ [])) t))) x h.0
    (some-from b (λ y. some_in c (λ z. is_found (fun_type f (x ∷ y ∷ z ∷ [])) t)) y h.1.0
    (some-from c (λ z. is_found (fun_type f (x ∷ y ∷ z ∷ [])) t) z h.1.1.0 (found-from (fun_type f (x ∷ y ∷ z ∷ [])) t k)))
fixed-from f none many (a ∷ b ∷ c ∷ []) (x ∷ y ∷ z ∷ w ∷ ts) t h k = absurd h.1.1.1
fixed-from f none many (a ∷ b ∷ c ∷ d ∷ sets) (x ∷ y ∷ z ∷ []) t h k = absurd h.1.1.1
fixed-from f none many (a ∷ b ∷ c ∷ d ∷ sets) (x ∷ y ∷ z ∷ w ∷ ts) t h k =
    let e : None ≡ Some t = sym (many x y z w ts) ∙ k in absurd (cc (e))

-- what a function can give
abbrev Gives : Fun → List Types → Option SqlType → Type 0
Gives f sets t = (ts : List (Option SqlType)) × AllHave sets ts × (fun_type f ts ≡ Some t)

fixed : (f : Fun) (sets : List Types) (t : Option SqlType) → has (collect (fixed_can f sets)) t ≡ true → Gives f sets t
fixed f sets t h = fixed-is f sets t (sym (has-collect (fixed_can f sets) t) ∙ h)

coalesced : (a : Types) (sets : List Types) (ts : List (Option SqlType)) (t : Option SqlType) → AllHave (a ∷ sets) ts → joint_type ts ≡ Some t
    → fun_type fun.Coalesce ts ≡ Some t
coalesced a sets [] t h k = absurd h
coalesced a sets (x ∷ ts) t h k = k

pub fun-is : (f : Fun) (sets : List Types) (t : Option SqlType) → has (fun_types f sets) t ≡ true → Gives f sets t
fun-is fun.Abs sets t h = fixed fun.Abs sets t h
fun-is fun.Len sets t h = fixed fun.Len sets t h
fun-is fun.Concat sets t h =
    let b = nat_le 2 (length sets) && each_in (fits sql.Text) sets in
    let e = and_parts b (is_same (Some sql.Text) t) (sym (has-collect (λ u. b && is_same (Some sql.Text) u) t) ∙ h) in
    let k = and_parts (nat_le 2 (length sets)) (each_in (fits sql.Text) sets) e.0 in
    let r = each-in (fits sql.Text) sets k.1 in
    let enough : nat_le 2 (length r.0) ≡ true = ap (nat_le 2) (sym (lengths sets r.0 r.1)) ∙ k.0 in (
      r.0,
      r.1,
      ap (λ v. typed (given v sql.Text)) (and_from (nat_le 2 (length r.0)) (list_all (fits sql.Text) r.0) enough r.2)
          ∙ ap (λ v. Some v) (is-same (Some sql.Text) t e.1),
    )
fun-is fun.Substring sets t h = fixed fun.Substring sets t h
fun-is fun.Trim sets t h = fixed fun.Trim sets t h
fun-is fun.Ucase sets t h = fixed fun.Ucase sets t h
fun-is fun.Lcase sets t h = fixed fun.Lcase sets t h
fun-is fun.Coalesce [] t h = absurd (no-true t h)
fun-is fun.Coalesce (a ∷ sets) t h = let r = joint-is (a ∷ sets) t h in (r.0, r.1, coalesced a sets r.0 t r.1 r.2)
fun-is fun.IfNull sets t h = fixed fun.IfNull sets t h
fun-is fun.NullIf sets t h = fixed fun.NullIf sets t h

from-fixed : (f : Fun) → fun_type f [] ≡ None
    → ((w x y z : Option SqlType) (ts : List (Option SqlType)) → fun_type f (w ∷ x ∷ y ∷ z ∷ ts) ≡ None)
    → (sets : List Types) (ts : List (Option SqlType)) (t : Option SqlType) → AllHave sets ts → fun_type f ts ≡ Some t
    → has (collect (fixed_can f sets)) t ≡ true
from-fixed f none many sets ts t h k = has-collect (fixed_can f sets) t ∙ fixed-from f none many sets ts t h k

pub fun-from : (f : Fun) (sets : List Types) (ts : List (Option SqlType)) (t : Option SqlType) → AllHave sets ts → fun_type f ts ≡ Some t
    → has (fun_types f sets) t ≡ true
fun-from fun.Abs sets ts t h k = from-fixed fun.Abs refl (λ w x y z us. refl) sets ts t h k
fun-from fun.Len sets ts t h k = from-fixed fun.Len refl (λ w x y z us. refl) sets ts t h k
fun-from fun.Concat sets ts t h k =
    let g = given-is (nat_le 2 (length ts) && list_all (fits sql.Text) ts) sql.Text t k in
    let e = and_parts (nat_le 2 (length ts)) (list_all (fits sql.Text) ts) g.0 in
    let b = nat_le 2 (length sets) && each_in (fits sql.Text) sets in
    let enough : nat_le 2 (length sets) ≡ true = ap (nat_le 2) (lengths sets ts h) ∙ e.0 in
    has-collect (λ u. b && is_same (Some sql.Text) u) t
    ∙ and_from b (is_same (Some sql.Text) t)
    (and_from (nat_le 2 (length sets)) (each_in (fits sql.Text) sets) enough (each-from (fits sql.Text) sets ts h e.1))
    (ap (λ v. is_same (Some sql.Text) v) (sym g.1))
fun-from fun.Substring sets ts t h k = from-fixed fun.Substring refl (λ w x y z us. refl) sets ts t h k
fun-from fun.Trim sets ts t h k = from-fixed fun.Trim refl (λ w x y z us. refl) sets ts t h k
fun-from fun.Ucase sets ts t h k = from-fixed fun.Ucase refl (λ w x y z us. refl) sets ts t h k
fun-from fun.Lcase sets ts t h k = from-fixed fun.Lcase refl (λ w x y z us. refl) sets ts t h k
fun-from fun.Coalesce [] [] t h k = absurd (cc (k))
fun-from fun.Coalesce [] (x ∷ ts) t h k = absurd h
fun-from fun.Coalesce (a ∷ sets) [] t h k = absurd h
fun-from fun.Coalesce (a ∷ sets) (x ∷ ts) t h k = joint-from (a ∷ sets) (x ∷ ts) t h k
fun-from fun.IfNull sets ts t h k = from-fixed fun.IfNull refl (λ w x y z us. refl) sets ts t h k
fun-from fun.NullIf sets ts t h k = from-fixed fun.NullIf refl (λ w x y z us. refl) sets ts t h k
