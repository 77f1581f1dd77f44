-- What is spelled as the window of a query is read.
use Rattle.std.proofs.Common.{◌≡◌, ◌≤◌, List, ◌∷◌, Option, Some, None, codes, refl, sym, ap, ◌∙◌, subst, arith}
use Rattle.ksql_lexer.specs.declared.token.Mark.TheVariants as mark
use Rattle.ksql_grammar.specs.declared.symbol.Keyword.TheVariants as key
use Rattle.ksql_grammar.specs.declared.symbol.Symbol.{Symbol}
use Rattle.ksql_grammar.specs.declared.symbol.Symbol.TheVariants.{Key, Word, Number, Sign}
use Rattle.statement_trees.specs.declared.tree.SpanText.{SpanText}
use Rattle.statement_trees.specs.declared.tree.WindowText.{WindowText}
use Rattle.statement_trees.specs.declared.tree.WindowText.TheVariants.{Tumbling, Hopping}
use Rattle.ksql_parser.specs.Grammar.{unit_of}
use Rattle.ksql_parser.specs.Grammar as g
use Rattle.ksql_parser.specs.Grammar.{Spells}
use Rattle.ksql_grammar.specs.Expressions.{after_key, after_sign, first}
use Rattle.ksql_grammar.proofs.Chains.{then}
use Rattle.ksql_parser.specs.Statements as r
use Rattle.ksql_parser.specs.Statements.{BeginsFrom}
use Rattle.ksql_parser.proofs.Steps.{word_there}
use Rattle.ksql_grammar.proofs.Steps.{If, key_found, key_there, sign_there, first_there}

span_only : (s : SpanText) (ts us : List Symbol) → Spells (g.span s) ts us → r.span ts ≡ Some (s, us)
unfolding r.span
span_only s ts us (g.a_span {n = n} {s = word} {u = u} {ts = vs} h) =
    then (first r.digits_of (Number n ∷ word ∷ vs)) _ (n, word ∷ vs) _ (first_there r.digits_of (Number n) (word ∷ vs) n refl)
    (then (first unit_of (word ∷ vs)) _ (u, vs) _ (first_there unit_of word vs u h) refl)

-- before the closing parenthesis no grace period stands
no_grace_there : (ts ws : List Symbol) → ts ≡ Sign mark.Close ∷ ws → r.after_grace ts ≡ None
unfolding r.after_grace after_sign
no_grace_there ts ws e = subst (λ us. r.after_grace us ≡ None) (sym e) refl

grace_there : (p q : Symbol) (ts : List Symbol) → p ≡ Word (codes "GRACE") → q ≡ Word (codes "PERIOD") → r.after_grace (Sign mark.Comma ∷ p ∷ q ∷ ts) ≡ Some ts
unfolding r.after_grace r.after_words
grace_there p q ts h k =
    (λ i. r.after_grace (Sign mark.Comma ∷ h i ∷ k i ∷ ts))
    ∙ then (after_sign mark.Comma (Sign mark.Comma ∷ Word (codes "GRACE") ∷ Word (codes "PERIOD") ∷ ts)) _ (Word (codes "GRACE") ∷ Word (codes "PERIOD") ∷ ts) _ (sign_there mark.Comma (Word (codes "GRACE") ∷ Word (codes "PERIOD") ∷ ts))
    (then (r.after_word (codes "GRACE") (Word (codes "GRACE") ∷ Word (codes "PERIOD") ∷ ts)) _ (Word (codes "PERIOD") ∷ ts) _ (word_there (codes "GRACE") (Word (codes "PERIOD") ∷ ts))
    (word_there (codes "PERIOD") ts))

grace_only : (v : Option SpanText) (ts us ws : List Symbol) → us ≡ Sign mark.Close ∷ ws → Spells (g.grace v) ts us → r.span_at ts (r.after_grace ts) ≡ Some (v, us)
grace_only v ts us ws e g.no_grace = ap (r.span_at ts) (no_grace_there ts ws e)
grace_only v ts us ws e (g.a_grace {g = p} {p = q} {s = s} {ts = vs} h k d) =
    ap (r.span_at (Sign mark.Comma ∷ p ∷ q ∷ vs)) (grace_there p q vs h k) ∙ then (r.span vs) _ (s, us) _ (span_only s vs us d) refl

-- before a grace period or the closing parenthesis no retention stands
no_retention_there : (v : Option SpanText) (ts us ws : List Symbol) → us ≡ Sign mark.Close ∷ ws → Spells (g.grace v) ts us → r.after_retention ts ≡ None
unfolding r.after_retention after_sign r.after_word
no_retention_there v ts us ws e g.no_grace = subst (λ us. r.after_retention us ≡ None) (sym e) refl
no_retention_there v ts us ws e (g.a_grace {g = p} {p = q} {ts = vs} h k d) = ap (λ x. r.after_retention (Sign mark.Comma ∷ x ∷ q ∷ vs)) h

retention_there : (p : Symbol) (ts : List Symbol) → p ≡ Word (codes "RETENTION") → r.after_retention (Sign mark.Comma ∷ p ∷ ts) ≡ Some ts
unfolding r.after_retention
retention_there p ts h =
    (λ i. r.after_retention (Sign mark.Comma ∷ h i ∷ ts))
    ∙ then (after_sign mark.Comma (Sign mark.Comma ∷ Word (codes "RETENTION") ∷ ts)) _ (Word (codes "RETENTION") ∷ ts) _ (sign_there mark.Comma (Word (codes "RETENTION") ∷ ts))
    (word_there (codes "RETENTION") ts)

retention_only : (w v : Option SpanText) (ts us vs ws : List Symbol) → vs ≡ Sign mark.Close ∷ ws → Spells (g.retention w) ts us → Spells (g.grace v) us vs
    → r.span_at ts (r.after_retention ts) ≡ Some (w, us)
retention_only w v ts us vs ws e g.no_retention f = ap (r.span_at ts) (no_retention_there v ts vs ws e f)
retention_only w v ts us vs ws e (g.a_retention {r = p} {s = s} {ts = rest} h d) f =
    ap (r.span_at (Sign mark.Comma ∷ p ∷ rest)) (retention_there p rest h) ∙ then (r.span rest) _ (s, us) _ (span_only s rest us d) refl

limits_only : (w v : Option SpanText) (ts us ws : List Symbol) → Spells (g.retention w) ts us → Spells (g.grace v) us (Sign mark.Close ∷ ws) → r.limits ts ≡ Some ((w, v), ws)
unfolding r.limits
limits_only w v ts us ws d f =
    then (r.span_at ts (r.after_retention ts)) _ (w, us) _ (retention_only w v ts us (Sign mark.Close ∷ ws) ws refl d f)
    (then (r.span_at us (r.after_grace us)) _ (v, Sign mark.Close ∷ ws) _ (grace_only v us (Sign mark.Close ∷ ws) ws refl f)
    (then (after_sign mark.Close (Sign mark.Close ∷ ws)) _ ws _ (sign_there mark.Close ws) refl))

size_only : (s : SpanText) (p : Symbol) (ts us : List Symbol) → p ≡ Word (codes "SIZE") → Spells (g.span s) ts us → r.size (Sign mark.Open ∷ p ∷ ts) ≡ Some (s, us)
unfolding r.size
size_only s p ts us h d =
    ap (λ x. r.size (Sign mark.Open ∷ x ∷ ts)) h
    ∙ then (after_sign mark.Open (Sign mark.Open ∷ Word (codes "SIZE") ∷ ts)) _ (Word (codes "SIZE") ∷ ts) _ (sign_there mark.Open (Word (codes "SIZE") ∷ ts))
    (then (r.after_word (codes "SIZE") (Word (codes "SIZE") ∷ ts)) _ ts _ (word_there (codes "SIZE") ts) (span_only s ts us d))

advance_only : (s : SpanText) (p : Symbol) (ts us : List Symbol) → p ≡ Word (codes "ADVANCE") → Spells (g.span s) ts us → r.advance (Sign mark.Comma ∷ p ∷ Key key.By ∷ ts) ≡ Some (s, us)
unfolding r.advance
advance_only s p ts us h d =
    ap (λ x. r.advance (Sign mark.Comma ∷ x ∷ Key key.By ∷ ts)) h
    ∙ then (after_sign mark.Comma (Sign mark.Comma ∷ Word (codes "ADVANCE") ∷ Key key.By ∷ ts)) _ (Word (codes "ADVANCE") ∷ Key key.By ∷ ts) _ (sign_there mark.Comma (Word (codes "ADVANCE") ∷ Key key.By ∷ ts))
    (then (r.after_word (codes "ADVANCE") (Word (codes "ADVANCE") ∷ Key key.By ∷ ts)) _ (Key key.By ∷ ts) _ (word_there (codes "ADVANCE") (Key key.By ∷ ts))
    (then (after_key key.By (Key key.By ∷ ts)) _ ts _ (key_there key.By ts) (span_only s ts us d)))

-- the word that a window begins with
tumbling_at : (ts : List Symbol) → r.window (Word (codes "TUMBLING") ∷ ts) ≡ r.tumbling ts
unfolding r.window
tumbling_at ts = ap (λ o. r.window_at o (r.after_word (codes "HOPPING") (Word (codes "TUMBLING") ∷ ts))) (word_there (codes "TUMBLING") ts)

hopping_at : (ts : List Symbol) → r.window (Word (codes "HOPPING") ∷ ts) ≡ r.hopping ts
unfolding r.window r.after_word
hopping_at ts = ap (r.window_at None) (word_there (codes "HOPPING") ts)

tumbling_only : (s : SpanText) (w v : Option SpanText) (p : Symbol) (ts us vs rest : List Symbol) → p ≡ Word (codes "SIZE") → Spells (g.span s) ts us → Spells (g.retention w) us vs
    → Spells (g.grace v) vs (Sign mark.Close ∷ rest) → r.tumbling (Sign mark.Open ∷ p ∷ ts) ≡ Some (Tumbling s w v, rest)
unfolding r.tumbling
tumbling_only s w v p ts us vs rest h d e f =
    then (r.size (Sign mark.Open ∷ p ∷ ts)) _ (s, us) _ (size_only s p ts us h d)
    (then (r.limits us) _ ((w, v), rest) _ (limits_only w v us vs rest e f) refl)

hopping_only : (s a : SpanText) (w v : Option SpanText) (p q : Symbol) (ts us vs ws rest : List Symbol) → p ≡ Word (codes "SIZE") → q ≡ Word (codes "ADVANCE")
    → Spells (g.span s) ts (Sign mark.Comma ∷ q ∷ Key key.By ∷ us) → Spells (g.span a) us vs → Spells (g.retention w) vs ws
    → Spells (g.grace v) ws (Sign mark.Close ∷ rest) → r.hopping (Sign mark.Open ∷ p ∷ ts) ≡ Some (Hopping s a w v, rest)
unfolding r.hopping
hopping_only s a w v p q ts us vs ws rest h k d f e m =
    then (r.size (Sign mark.Open ∷ p ∷ ts)) _ (s, Sign mark.Comma ∷ q ∷ Key key.By ∷ us) _ (size_only s p ts (Sign mark.Comma ∷ q ∷ Key key.By ∷ us) h d)
    (then (r.advance (Sign mark.Comma ∷ q ∷ Key key.By ∷ us)) _ (a, vs) _ (advance_only a q us vs k f)
    (then (r.limits vs) _ ((w, v), rest) _ (limits_only w v vs ws rest e m) refl))

one_window_only : (w : WindowText) (ts rest : List Symbol) → Spells (g.window w) ts rest → r.window ts ≡ Some (w, rest)
one_window_only w ts rest (g.tumbling {t = t} {z = p} {size = s} {r = v} {g = u} {ts = xs} {us = us} {vs = vs} h k d e f) =
    ap (λ x. r.window (x ∷ Sign mark.Open ∷ p ∷ xs)) h ∙ tumbling_at (Sign mark.Open ∷ p ∷ xs) ∙ tumbling_only s v u p xs us vs rest k d e f
one_window_only w ts rest (g.hopping {t = t} {z = p} {d = q} {size = s} {advance = a} {r = v} {g = u} {ts = xs} {us = us} {vs = vs} {ws = ws} h k l d f e m) =
    ap (λ x. r.window (x ∷ Sign mark.Open ∷ p ∷ xs)) h ∙ hopping_at (Sign mark.Open ∷ p ∷ xs) ∙ hopping_only s a v u p q xs us vs ws rest k l d f e m

if_none : {A : Type 0} (o : Option A) (P : A → Type 0) → If o P → ((x : A) → P x → ⊥) → o ≡ None
if_none None P h k = refl
if_none (Some x) P h k = absurd (k x h)

-- after the window comes WHERE, a later clause or nothing
pub window_only : (w : Option WindowText) (ts rest : List Symbol) → Spells (g.windowed w) ts rest → BeginsFrom 3 rest → r.windowed ts ≡ Some (w, rest)
unfolding r.windowed
window_only w ts rest g.no_window b =
    ap (r.windowed_at ts) (if_none (after_key key.Window ts) (λ us. ts ≡ Key key.Window ∷ us) (key_found key.Window ts)
    (λ us e. let late : 3 ≤ 2 = subst (BeginsFrom 3) e b in omega arith))
window_only w ts rest (g.a_window {w = window} {ts = us} d) b =
    ap (r.windowed_at (Key key.Window ∷ us)) (key_there key.Window us) ∙ then (r.window us) _ (window, rest) _ (one_window_only window us rest d) refl
