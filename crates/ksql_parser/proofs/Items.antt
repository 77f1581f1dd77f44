-- What is spelled as an item, or as a list of items, is read.
use Rattle.std.proofs.Common.{◌≡◌, ℕ, suc, ◌≤◌, ◌<◌, Bool, true, false, List, [], ◌∷◌, ◌++◌, length, Option, Some, None, refl, sym, ap, ◌∙◌, subst, append_assoc, arith}
use Rattle.std.proofs.lemmas.Bool.{false≢true}
use Rattle.std.proofs.lemmas.Option.{none-some, some_pair_parts}
use Rattle.ksql_lexer.specs.declared.token.Mark.TheVariants as mark
use Rattle.ksql_grammar.specs.declared.symbol.Keyword.TheVariants as key
use Rattle.ksql_grammar.specs.declared.symbol.Symbol.{Symbol}
use Rattle.ksql_grammar.specs.declared.symbol.Symbol.TheVariants.{Key, Word, Quoted, Text, Number, Sign}
use Rattle.expression_trees.specs.declared.tree.Expr.{Expr}
use Rattle.statement_trees.specs.declared.tree.SelectItem.{SelectItem}
use Rattle.statement_trees.specs.declared.tree.SelectItem.TheVariants.{Star, StarOf, One}
use Rattle.ksql_grammar.specs.Symbols.{name_of, or_of, and_of, sum_of, product_of}
use Rattle.ksql_parser.specs.Grammar as g
use Rattle.ksql_grammar.specs.Grammar.{Spells as SpellsExpr, at, expr}
use Rattle.ksql_parser.specs.Grammar.{Spells}
use Rattle.ksql_grammar.specs.Reading.{goes_on, EndsExpr}
use Rattle.ksql_grammar.specs.Expressions.{Reader, after_sign, first, is_not, is_sign}
use Rattle.expression_trees.specs.Options.{◌>>=◌}
use Rattle.ksql_grammar.specs.Expressions as e
use Rattle.ksql_grammar.proofs.Takes.{takes}
use Rattle.ksql_grammar.proofs.Found.{behind as after_expr}
use Rattle.ksql_grammar.proofs.Begins.{begins, name_begins}
use Rattle.ksql_grammar.proofs.Ends.{Rest, primary_no_sign, primary_begins_unary, unary_no_not}
use Rattle.ksql_grammar.proofs.Chains.{chain_empty, prefixed_none}
use Rattle.ksql_grammar.proofs.Only.{sign_out}
use Rattle.ksql_grammar.proofs.Whole.{expression_only}
use Rattle.ksql_parser.specs.Statements as r
use Rattle.ksql_parser.specs.Statements.{ends_item, EndsItem}
use Rattle.ksql_parser.proofs.Steps.{First, behind, along, bind_is}
use Rattle.ksql_grammar.proofs.Steps.{If, if_bind, if_some, first_found, first_there, sign_found, sign_there}
use Rattle.ksql_parser.proofs.Only.{both}
use Rattle.ksql_parser.proofs.Calls.{same_tail}
use Rattle.ksql_parser.proofs.Joins.{StartsNoAlias, alias_only}

-- after a name and `.`, `*` continues no expression
abbrev dot_star : List Symbol → List Symbol
dot_star ts = Sign mark.Dot ∷ Sign mark.Star ∷ ts

qualified_fails : (qualifier : List ℕ) (ts : List Symbol) → e.qualified qualifier (Sign mark.Star ∷ ts) ≡ None
unfolding e.qualified first
qualified_fails qualifier ts = refl

named_fails : (inner : Reader Expr) (qualifier : List ℕ) (ts : List Symbol) → e.named inner qualifier (dot_star ts) ≡ None
unfolding e.named
named_fails inner qualifier ts =
    ap (λ o. e.named_at inner qualifier (dot_star ts) o (after_sign mark.Dot (dot_star ts))) (sign_out mark.Open (λ s. s ≡ Sign mark.Dot) (dot_star ts) refl (λ e. cc))
    ∙ ap (λ o. e.named_at inner qualifier (dot_star ts) None o) (sign_there mark.Dot (Sign mark.Star ∷ ts))
    ∙ qualified_fails qualifier ts

primary_fails : (inner : Reader Expr) (n : Symbol) (name : List ℕ) (ts : List Symbol) → name_of n ≡ Some name → e.primary inner (n ∷ dot_star ts) ≡ None
unfolding e.primary
primary_fails inner (Word w) name ts h = named_fails inner w ts
primary_fails inner (Quoted w) name ts h = named_fails inner w ts
primary_fails inner _ name ts h = absurd (none-some name h)

unary_fails : (inner : Reader Expr) (n : Symbol) (name : List ℕ) (ts : List Symbol) → name_of n ≡ Some name → e.unary inner (n ∷ dot_star ts) ≡ None
unfolding e.unary
unary_fails inner n name ts h = prefixed_none is_sign (e.primary inner) (n ∷ dot_star ts) (primary_no_sign n (name_begins n name h)) ∙ primary_fails inner n name ts h

sum_fails : (inner : Reader Expr) (n : Symbol) (name : List ℕ) (ts : List Symbol) → name_of n ≡ Some name → e.sum inner (n ∷ dot_star ts) ≡ None
unfolding e.sum e.product
sum_fails inner n name ts h =
    chain_empty sum_of (e.product inner) (n ∷ dot_star ts) (chain_empty product_of (e.unary inner) (n ∷ dot_star ts) (unary_fails inner n name ts h))

predicate_fails : (inner : Reader Expr) (n : Symbol) (name : List ℕ) (ts : List Symbol) → name_of n ≡ Some name → e.predicate inner (n ∷ dot_star ts) ≡ None
unfolding e.predicate
predicate_fails inner n name ts h = ap (λ o. o >>= λ a. e.tested inner a.0 a.1) (sum_fails inner n name ts h)

negations_fails : (inner : Reader Expr) (n : Symbol) (name : List ℕ) (ts : List Symbol) → name_of n ≡ Some name → e.negations inner (n ∷ dot_star ts) ≡ None
unfolding e.negations
negations_fails inner n name ts h =
    prefixed_none is_not (e.predicate inner) (n ∷ dot_star ts) (unary_no_not n (primary_begins_unary n (name_begins n name h))) ∙ predicate_fails inner n name ts h

within_fails : (k : ℕ) (n : Symbol) (name : List ℕ) (ts : List Symbol) → name_of n ≡ Some name → e.within (suc k) (n ∷ dot_star ts) ≡ None
unfolding e.within e.disjunction e.conjunction
within_fails k n name ts h =
    chain_empty or_of (e.conjunction (e.within k)) (n ∷ dot_star ts) (chain_empty and_of (e.negations (e.within k)) (n ∷ dot_star ts) (negations_fails (e.within k) n name ts h))

-- after an item no expression and no alias continues
item_no_alias : (s : Symbol) → ends_item s ≡ true → StartsNoAlias s
item_no_alias (Sign mark.Comma) h = refl
item_no_alias (Key key.From) h = refl
item_no_alias _ h = absurd (false≢true h)

ends_alias : (ts : List Symbol) → EndsItem ts → Rest StartsNoAlias ts
ends_alias [] h = absurd h
ends_alias (s ∷ ts) h = item_no_alias s h

item_ends : (s : Symbol) → ends_item s ≡ true → goes_on s ≡ false
item_ends (Sign mark.Comma) h = refl
item_ends (Key key.From) h = refl
item_ends _ h = absurd (false≢true h)

name_ends : (s : Symbol) (name : List ℕ) → name_of s ≡ Some name → goes_on s ≡ false
name_ends (Word w) name h = refl
name_ends (Quoted w) name h = refl
name_ends _ name h = absurd (none-some name h)

ends_there : (ts : List Symbol) → EndsItem ts → EndsExpr ts
ends_there [] h = absurd h
ends_there (s ∷ ts) h = item_ends s h

-- before an alias and the end of an item ends an expression
alias_ends : (a : Option (List ℕ)) (ts rest : List Symbol) → Spells (g.alias a) ts rest → EndsItem rest → EndsExpr ts
alias_ends a ts rest g.no_alias h = ends_there ts h
alias_ends a ts rest (g.plain_alias {n} {name} e) h = name_ends n name e
alias_ends a ts rest (g.as_alias e) h = refl

-- ---- the three kinds of items

name_at : List Symbol → Option (List ℕ)
name_at [] = None
name_at (s ∷ ts) = name_of s

no_name : (s : Symbol) (name : List ℕ) (ts us : List Symbol) → s ∷ ts ≡ Sign mark.Star ∷ us → name_of s ≡ Some name → ⊥
unfolding name_at
no_name s name ts us e h = none-some name (sym (ap name_at e) ∙ h)

no_expr : (a : Expr) (ts us : List Symbol) → SpellsExpr (at expr a) (Sign mark.Star ∷ ts) us → ⊥
no_expr a ts us d = false≢true (begins d)

-- what precedes `.*`
abbrev StarOfAt : List Symbol → List ℕ × List Symbol → Type 0
StarOfAt ts x = (n : Symbol) × (ts ≡ n ∷ dot_star x.1) × (name_of n ≡ Some x.0)

star_of_at : (ts : List Symbol) → If (r.star_of ts) (StarOfAt ts)
unfolding r.star_of
star_of_at ts =
    if_bind (first name_of ts) _ (First name_of ts) _ (first_found name_of ts) (λ n h.
    if_bind (after_sign mark.Dot n.1) _ (λ us. n.1 ≡ Sign mark.Dot ∷ us) _ (sign_found mark.Dot n.1) (λ us k.
    if_bind (after_sign mark.Star us) _ (λ vs. us ≡ Sign mark.Star ∷ vs) _ (sign_found mark.Star us) (λ vs m.
    (h.0, h.1 ∙ ap (λ x. h.0 ∷ x) k ∙ ap (λ x. h.0 ∷ Sign mark.Dot ∷ x) m, h.2))))

star_of_there : (n : Symbol) (name : List ℕ) (ts : List Symbol) → name_of n ≡ Some name → r.star_of (n ∷ dot_star ts) ≡ both name ts
unfolding r.star_of
star_of_there n name ts h =
    bind_is (λ m. after_sign mark.Dot m.1 >>= λ us. after_sign mark.Star us >>= λ vs. both m.0 vs) (first_there name_of n (dot_star ts) name h)
    (bind_is (λ us. after_sign mark.Star us >>= λ vs. both name vs) (sign_there mark.Dot (Sign mark.Star ∷ ts))
    (bind_is (λ vs. both name vs) (sign_there mark.Star ts) refl))

no_star : (ts us rest : List Symbol) (name : List ℕ) → r.star_of ts ≡ both name us → ts ≡ Sign mark.Star ∷ rest → ⊥
no_star ts us rest name h e =
    let f = if_some (r.star_of ts) (StarOfAt ts) (name, us) (star_of_at ts) h in
    no_name f.0 name (dot_star us) rest (sym f.1 ∙ e) f.2

no_star_of : (a : Expr) (n : Symbol) (name : List ℕ) (ts us : List Symbol) → name_of n ≡ Some name → SpellsExpr (at expr a) (n ∷ dot_star ts) us → EndsExpr us → ⊥
no_star_of a n name ts us h d ends =
    none-some (a, us) (sym (within_fails (length (n ∷ dot_star ts)) n name ts h) ∙ expression_only a (n ∷ dot_star ts) us d ends)

pub item_star : (i : SelectItem) (ts us rest : List Symbol) → ts ≡ Sign mark.Star ∷ us → Spells (g.item i) ts rest → both i rest ≡ both Star us
item_star i ts us rest e g.star = ap (both Star) (same_tail (Sign mark.Star) (Sign mark.Star) rest us e)
item_star i ts us rest e (g.star_of {n} {name} h) = absurd (no_name n name (dot_star rest) us e h)
item_star i ts us rest e (g.one {a} {us = vs} d f) = absurd (no_expr a us vs (after_expr (sym e) d))

pub item_star_of : (i : SelectItem) (ts us rest : List Symbol) (name : List ℕ) → r.star_of ts ≡ both name us → EndsItem rest → Spells (g.item i) ts rest → both i rest ≡ both (StarOf name) us
item_star_of i ts us rest name h b g.star = absurd (no_star ts us rest name h refl)
item_star_of i ts us rest name h b (g.star_of {n} {name = other} e) =
    let same = some_pair_parts other name rest us (sym (star_of_there n other rest e) ∙ h) in
    (λ j. both (StarOf (same.0 j)) (same.1 j))
item_star_of i ts us rest name h b (g.one {a} {n} {us = vs} d f) =
    let w = if_some (r.star_of ts) (StarOfAt ts) (name, us) (star_of_at ts) h in
    absurd (no_star_of a w.0 name us vs w.2 (after_expr (sym w.1) d) (alias_ends n vs rest f b))

-- an expression, and its alias
abbrev pub HasOne : SelectItem → List Symbol → List Symbol → Type 0
HasOne i ts rest = (a : Expr) × (n : Option (List ℕ)) × (us : List Symbol) × (i ≡ One a n) × SpellsExpr (at expr a) ts us × EndsExpr us × (r.alias us ≡ both n rest)

pub item_one : (i : SelectItem) (ts rest : List Symbol) → EndsItem rest → after_sign mark.Star ts ≡ None → r.star_of ts ≡ None → Spells (g.item i) ts rest → HasOne i ts rest
item_one i ts rest b h k g.star = absurd (none-some rest (sym h ∙ sign_there mark.Star rest))
item_one i ts rest b h k (g.star_of {n} {name} e) = absurd (none-some (name, rest) (sym k ∙ star_of_there n name rest e))
item_one i ts rest b h k (g.one {a} {n} {us} d f) = (a, n, us, refl, d, alias_ends n us rest f b, alias_only n us rest f (ends_alias rest b))

-- ---- what an item takes

alias_takes : (a : Option (List ℕ)) (ts us : List Symbol) → Spells (g.alias a) ts us → length us ≤ length ts
alias_takes a ts us g.no_alias = omega arith
alias_takes a ts us (g.plain_alias e) = omega arith
alias_takes a ts us (g.as_alias e) = omega arith

pub item_takes : (i : SelectItem) (ts us : List Symbol) → Spells (g.item i) ts us → length us < length ts
item_takes i ts us g.star = omega arith
item_takes i ts us (g.star_of e) = omega arith
item_takes i ts us (g.one {n} {us = vs} d f) = let t = takes d in let u = alias_takes n vs us f in omega arith

-- ---- lists of items

-- what is spelled from here on is spelled after the items that were read
abbrev pub FrontSpelled : List SelectItem → List Symbol → List Symbol → Type 0
FrontSpelled front ts whole = (is : List SelectItem) (us : List Symbol) → Spells (g.items is) ts us → Spells (g.items (front ++ is)) whole us

-- what is spelled begins with the items that were read
abbrev pub FrontOnly : List SelectItem → List Symbol → List Symbol → Type 0
FrontOnly front ts whole = (is : List SelectItem) (rest : List Symbol) → Spells (g.items is) whole (Key key.From ∷ rest)
    → (others : List SelectItem) × (is ≡ front ++ others) × Spells (g.items others) ts (Key key.From ∷ rest)

-- only this item is spelled there
abbrev pub OnlyItem : List Symbol → SelectItem → List Symbol → Type 0
OnlyItem ts i us = (j : SelectItem) (rest : List Symbol) → Spells (g.item j) ts rest → EndsItem rest → both j rest ≡ both i us

pub spelled_more : (front : List SelectItem) (i : SelectItem) (ts us whole : List Symbol) → FrontSpelled front ts whole → Spells (g.item i) ts (Sign mark.Comma ∷ us)
    → FrontSpelled (front ++ i ∷ []) us whole
spelled_more front i ts us whole h d = λ is vs f. subst (λ xs. Spells (g.items xs) whole vs) (sym (append_assoc front (i ∷ []) is)) (h (i ∷ is) vs (g.more_items d f))

-- where FROM stands, the item ends
from_ends : (us rest : List Symbol) → us ≡ Key key.From ∷ rest → EndsItem us
from_ends us rest e = subst EndsItem (sym e) refl

-- items after a first one that has a comma
abbrev Behind : List SelectItem → SelectItem → List Symbol → List Symbol → Type 0
Behind is i us vs = (others : List SelectItem) × (is ≡ i ∷ others) × Spells (g.items others) us vs

starts_comma : List Symbol → Bool
starts_comma (Sign mark.Comma ∷ ts) = true
starts_comma _ = false

no_comma : (us rest : List Symbol) → Key key.From ∷ rest ≡ Sign mark.Comma ∷ us → ⊥
unfolding starts_comma
no_comma us rest e = false≢true (ap starts_comma e)

first_more : (is : List SelectItem) (i : SelectItem) (ts us vs rest : List Symbol) → vs ≡ Key key.From ∷ rest → OnlyItem ts i (Sign mark.Comma ∷ us) → Spells (g.items is) ts vs → Behind is i us vs
first_more is i ts us vs rest e only (g.last_item {i = j} d) =
    let same = some_pair_parts j i vs (Sign mark.Comma ∷ us) (only j vs d (from_ends vs rest e)) in
    absurd (no_comma us rest (sym e ∙ same.1))
first_more is i ts us vs rest e only (g.more_items {i = j} {is = others} {us = ws} d f) =
    let same = some_pair_parts j i (Sign mark.Comma ∷ ws) (Sign mark.Comma ∷ us) (only j (Sign mark.Comma ∷ ws) d refl) in
    (others, ap (λ x. x ∷ others) same.0, behind (sym (same_tail (Sign mark.Comma) (Sign mark.Comma) ws us same.1)) f)

pub only_more : (front : List SelectItem) (i : SelectItem) (ts us whole : List Symbol) → FrontOnly front ts whole → OnlyItem ts i (Sign mark.Comma ∷ us) → FrontOnly (front ++ i ∷ []) us whole
only_more front i ts us whole h only = λ is rest d.
    let p = h is rest d in
    let q = first_more p.0 i ts us (Key key.From ∷ rest) rest refl only p.2 in
    (q.0, p.1 ∙ ap (λ xs. front ++ xs) q.1 ∙ sym (append_assoc front (i ∷ []) q.0), q.2)

last_only : (is : List SelectItem) (i : SelectItem) (ts us vs rest : List Symbol) → vs ≡ Key key.From ∷ rest → after_sign mark.Comma us ≡ None → OnlyItem ts i us → Spells (g.items is) ts vs
    → (is ≡ i ∷ []) × (vs ≡ us)
last_only is i ts us vs rest e none only (g.last_item {i = j} d) =
    let same = some_pair_parts j i vs us (only j vs d (from_ends vs rest e)) in
    (ap (λ x. x ∷ []) same.0, same.1)
last_only is i ts us vs rest e none only (g.more_items {i = j} {us = ws} d f) =
    let same = some_pair_parts j i (Sign mark.Comma ∷ ws) us (only j (Sign mark.Comma ∷ ws) d refl) in
    absurd (none-some ws (sym none ∙ ap (after_sign mark.Comma) (sym same.1) ∙ sign_there mark.Comma ws))

pub only_last : (front is : List SelectItem) (i : SelectItem) (ts us whole rest : List Symbol) → FrontOnly front ts whole → after_sign mark.Comma us ≡ None → OnlyItem ts i us
    → Spells (g.items is) whole (Key key.From ∷ rest) → both is (Key key.From ∷ rest) ≡ both (front ++ i ∷ []) us
only_last front is i ts us whole rest h none only d =
    let p = h is rest d in
    let q = last_only p.0 i ts us (Key key.From ∷ rest) rest refl none only p.2 in
    let same = p.1 ∙ ap (λ xs. front ++ xs) q.0 in
    (λ k. both (same k) (q.1 k))

-- an item that is spelled there
abbrev pub HasItem : List Symbol → Type 0
HasItem ts = (i : SelectItem) × (us : List Symbol) × Spells (g.item i) ts us × EndsItem us

some_item : (is : List SelectItem) (ts us rest : List Symbol) → us ≡ Key key.From ∷ rest → Spells (g.items is) ts us → HasItem ts
some_item is ts us rest e (g.last_item {i} d) = (i, us, d, from_ends us rest e)
some_item is ts us rest e (g.more_items {i} {us = vs} d f) = (i, Sign mark.Comma ∷ vs, d, refl)

pub next_item : (front is : List SelectItem) (ts whole rest : List Symbol) → FrontOnly front ts whole → Spells (g.items is) whole (Key key.From ∷ rest) → HasItem ts
next_item front is ts whole rest h d = let p = h is rest d in some_item p.0 ts (Key key.From ∷ rest) rest refl p.2

pub item_read : (i : SelectItem) (a x : Expr) (n m : Option (List ℕ)) (us vs : List Symbol) → i ≡ One a n → a ≡ x → n ≡ m → us ≡ vs → both i us ≡ both (One x m) vs
item_read i a x n m us vs h e f k = ap (λ o. both o us) h ∙ (λ j. both (One (e j) (f j)) (k j))
