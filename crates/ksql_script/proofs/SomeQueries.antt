-- Where the items of a query end, and a query.
use Rattle.std.proofs.Common.{◌≡◌, ℕ, zero, suc, ◌<◌, ◌⊎◌, inl, inr, List, [], ◌∷◌, length, Option, Some, None, refl, sym, ap, ◌∙◌, subst, arith}
use Rattle.std.proofs.lemmas.Option.{none-some, some_pair_parts}
use Rattle.ksql_lexer.specs.declared.token.Mark.TheVariants as mark
use Rattle.ksql_grammar.specs.declared.symbol.Keyword.TheVariants as key
use Rattle.ksql_grammar.specs.declared.symbol.Symbol.{Symbol}
use Rattle.ksql_grammar.specs.declared.symbol.Symbol.TheVariants.{Key, Sign}
use Rattle.statement_trees.specs.declared.tree.SelectItem.{SelectItem}
use Rattle.statement_trees.specs.declared.tree.SelectItem.TheVariants.{Star, StarOf, One}
use Rattle.ksql_parser.specs.Grammar as g
use Rattle.ksql_parser.specs.Grammar.{Spells}
use Rattle.ksql_grammar.specs.Expressions.{after_sign}
use Rattle.ksql_parser.specs.Statements as r
use Rattle.ksql_parser.specs.Statements.{BeginsFrom, EndsItem}
use Rattle.ksql_parser.specs.Queries.{SpellsFront, SpellsClauses}
use Rattle.ksql_parser.proofs.Steps.{behind, along}
use Rattle.ksql_grammar.proofs.Steps.{if_some, sign_there}
use Rattle.ksql_parser.proofs.Calls.{same_tail}
use Rattle.ksql_parser.proofs.Found.{star_of_found, alias_found, emit_found}
use Rattle.ksql_parser.proofs.Items.{item_star, item_star_of, item_one, item_takes}
use Rattle.ksql_parser.proofs.Selects.{front_of, clauses_of, parts_of}
use Rattle.ksql_parser.proofs.UniqueClauses.{from_no_alias, joined_from, windowed_from, emit_from}
use Rattle.ksql_script.proofs.Endings.{Settled, ends, Always, Spelt, settled_given, settled_as, settled_by, settled_then, sign_here, some_key}
use Rattle.ksql_script.proofs.SomeClauses.{some_expr, some_clauses, some_source, some_joined, some_windowed, some_emit}

-- nothing follows
abbrev pub IsEnd : List Symbol → Type 0
IsEnd us = us ≡ []

-- FROM follows
abbrev IsFrom : List Symbol → Type 0
IsFrom us = (rest : List Symbol) × (us ≡ Key key.From ∷ rest)

-- ---- items

-- an expression and its alias
some_one : (ts : List Symbol) → after_sign mark.Star ts ≡ None → r.star_of ts ≡ None → Settled (Spelt g.item ts) EndsItem
some_one ts e f =
    settled_by (λ us vs. (n : Option (List ℕ)) × (r.alias us ≡ Some (n, vs)))
    (λ us vs s t. (One s.0 t.0, g.one s.1 (if_some (r.alias us) (λ x. Spells (g.alias x.0) us x.1) (t.0, vs) (alias_found us) t.1)))
    (λ vs s c. let h = item_one s.0 ts vs c e f s.1 in (h.2, (h.0, h.4), h.5, (h.1, h.6)))
    (some_expr ts) (λ us s. settled_given (r.alias us))

some_item : (ts : List Symbol) → Settled (Spelt g.item ts) EndsItem
some_item ts = star_at (after_sign mark.Star ts) refl
  where
    name_at : (o : Option (List ℕ × List Symbol)) → after_sign mark.Star ts ≡ None → r.star_of ts ≡ o → Settled (Spelt g.item ts) EndsItem
    name_at None e f = some_one ts e f
    name_at (Some x) e f =
        ends x.1 (StarOf x.0, if_some (r.star_of ts) (λ x. Spells (g.item (StarOf x.0)) ts x.1) x (star_of_found ts) f)
        (λ vs s c. (some_pair_parts s.0 (StarOf x.0) vs x.1 (item_star_of s.0 ts x.1 vs x.0 f c s.1)).1)

    star_at : (o : Option (List Symbol)) → after_sign mark.Star ts ≡ o → Settled (Spelt g.item ts) EndsItem
    star_at None e = name_at (r.star_of ts) e refl
    star_at (Some us) e =
        let here = sign_here mark.Star ts us e in
        ends us (Star, behind here g.star) (λ vs s c. (some_pair_parts s.0 Star vs us (item_star s.0 ts us vs here s.1)).1)

-- after an item: nothing more of the list, or a comma and the others
abbrev Further : List Symbol → List Symbol → Type 0
Further us vs = (vs ≡ us) ⊎ ((ws : List Symbol) × (us ≡ Sign mark.Comma ∷ ws) × Spelt g.items ws vs)

items_from : (ts us vs : List Symbol) → Spelt g.item ts us → Further us vs → Spelt g.items ts vs
items_from ts us vs s (inl e) = (s.0 ∷ [], g.last_item (along s.1 (sym e)))
items_from ts us vs s (inr t) = (s.0 ∷ t.2.0, g.more_items (along s.1 t.1) t.2.1)

from_ends : (us : List Symbol) → IsFrom us → EndsItem us
from_ends us h = subst EndsItem (sym h.1) refl

items_first : (is : List SelectItem) (ts vs : List Symbol) → Spells (g.items is) ts vs → IsFrom vs → (us : List Symbol) × Spelt g.item ts us × EndsItem us × Further us vs
items_first is ts vs (g.last_item {i} d) c = (vs, (i, d), from_ends vs c, inl refl)
items_first is ts vs (g.more_items {i} {is = js} {us} d f) c = (Sign mark.Comma ∷ us, (i, d), refl, inr (us, refl, (js, f)))

further_none : (us vs : List Symbol) → after_sign mark.Comma us ≡ None → Further us vs → vs ≡ us
further_none us vs e (inl h) = h
further_none us vs e (inr t) = absurd (none-some t.0 (sym e ∙ ap (after_sign mark.Comma) t.1 ∙ sign_there mark.Comma t.0))

further_some : (us vs ws : List Symbol) → us ≡ Sign mark.Comma ∷ ws → IsFrom vs → Further us vs → Spelt g.items ws vs
further_some us vs ws e c (inl h) = let clash : Key key.From ∷ c.0 ≡ Sign mark.Comma ∷ ws = sym c.1 ∙ h ∙ e in absurd cc
further_some us vs ws e c (inr t) = subst (λ l. Spelt g.items l vs) (same_tail (Sign mark.Comma) (Sign mark.Comma) t.0 ws (sym t.1 ∙ e)) t.2

module _ (us : List Symbol) (others : (ws : List Symbol) → us ≡ Sign mark.Comma ∷ ws → Settled (Spelt g.items ws) IsFrom) where
  comma_at : (o : Option (List Symbol)) → after_sign mark.Comma us ≡ o → Settled (Further us) IsFrom
  comma_at None e = ends us (inl refl) (λ vs t c. further_none us vs e t)
  comma_at (Some ws) e =
      let here = sign_here mark.Comma us ws e in
      settled_as (others ws here) (λ vs s. inr (ws, here, s)) (λ vs t c. (further_some us vs ws here c t, c))

items_within : (n : ℕ) (ts : List Symbol) → length ts < n → Settled (Spelt g.items ts) IsFrom
items_within zero ts short = absurd (omega arith)
items_within (suc n) ts short =
    settled_by Further (λ us vs s t. items_from ts us vs s t) (λ vs s c. items_first s.0 ts vs s.1 c) (some_item ts)
    (λ us s. comma_at us (λ ws e. items_within n ws (omega (arith, short, item_takes s.0 ts us s.1, ap length e))) (after_sign mark.Comma us) refl)

some_items : (ts : List Symbol) → Settled (Spelt g.items ts) IsFrom
some_items ts = items_within (suc (length ts)) ts (omega arith)

-- ---- queries

some_front : (ts : List Symbol) → Settled (λ us. (f : _) × SpellsFront f ts us) (BeginsFrom 3)
some_front ts =
    settled_as
    (settled_then (Spelt g.windowed)
    (settled_then (Spelt g.joined)
    (settled_then (Spelt g.source)
    (settled_then (λ us vs. us ≡ Key key.From ∷ vs)
    (settled_then (Spelt g.items) (some_key {C = Always} key.Select ts) some_items (λ us vs s c. tt))
    (λ us. some_key {C = Always} key.From us) (λ us vs s c. (vs, s)))
    some_source (λ us vs s c. tt))
    some_joined (λ us vs s c. from_no_alias us (joined_from s.1 c)))
    some_windowed (λ us vs s c. windowed_from s.1 c))
    (λ us p.
    let source = p.1.1 in let item = source.1.1 in (
      record { items = item.2.0; source = source.2.0; join = p.1.2.0; window = p.2.0 },
      (item.0, source.0, p.1.0, p.0, item.1, along item.2.1 source.1.2, source.2.1, p.1.2.1, p.2.1),
    ))
    (λ us s c. let d = s.1 in
    ((d.3, (d.2, (d.1, (Key key.From ∷ d.1, (d.0, d.4, (s.0.items, d.5)), refl), (s.0.source, d.6)), (s.0.join, d.7)), (s.0.window, d.8)), c))

-- its clauses, and the end
abbrev Ending : List Symbol → List Symbol → Type 0
Ending us vs = (ws : List Symbol) × ((c : _) × SpellsClauses c us ws) × Spells g.emit ws vs

emit_begins : (us vs : List Symbol) → Spells g.emit us vs → IsEnd vs → BeginsFrom 7 us
emit_begins us vs d e = emit_from d (subst (BeginsFrom 8) (sym e) tt)

some_ending : (us : List Symbol) → Settled (Ending us) IsEnd
some_ending us =
    settled_then (Spells g.emit) (some_clauses us) (λ ws. settled_as (some_emit ws) (λ vs s. s) (λ vs s e. (s, subst (BeginsFrom 8) (sym e) tt)))
    (λ ws vs d e. emit_begins ws vs d e)

pub some_select : (ts : List Symbol) → Settled (Spelt g.select ts) IsEnd
some_select ts =
    settled_by Ending
    (λ us vs s t.
    let f = s.1 in let c = t.1.1 in (
      record { items = s.0.items; source = s.0.source; join = s.0.join; window = s.0.window; filter = t.1.0.filter; group = t.1.0.group; partition = t.1.0.partition; having = t.1.0.having },
      behind f.4 (g.a_select f.5 f.6 f.7 f.8 c.3 c.4 c.5 c.6 t.2),
    ))
    (λ vs s e. let h = parts_of s.0 ts vs e s.1 in (h.0, (front_of s.0, h.2), h.4, (h.1, (clauses_of s.0, h.3), along (emit_found h.1) (h.6 ∙ sym e))))
    (some_front ts) (λ us s. some_ending us)
