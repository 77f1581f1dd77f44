-- What is spelled as a window is what is read.
use Rattle.std.proofs.Common.{◌≡◌, List, ◌∷◌, Option, Some, None, codes, refl, ap, ap₂, ◌∙◌}
use Rattle.ksql_lexer.specs.declared.token.Mark.TheVariants as mark
use Rattle.ksql_grammar.specs.declared.symbol.Keyword.TheVariants as key
use Rattle.ksql_grammar.specs.declared.symbol.Symbol.{Symbol}
use Rattle.ksql_grammar.specs.declared.symbol.Symbol.TheVariants.{Key, Word, Number, Sign}
use Rattle.statement_trees.specs.declared.tree.SpanText.{SpanText}
use Rattle.statement_trees.specs.declared.tree.WindowText.{WindowText}
use Rattle.ksql_parser.specs.Grammar.{unit_of}
use Rattle.ksql_parser.specs.Grammar as g
use Rattle.ksql_parser.specs.Grammar.{Spells}
use Rattle.ksql_grammar.specs.Expressions.{after_sign}
use Rattle.expression_trees.specs.Options.{◌>>=◌}
use Rattle.ksql_grammar.proofs.Only.{sign_out}
use Rattle.ksql_parser.specs.Statements as r
use Rattle.ksql_parser.proofs.Steps.{bind_is}
use Rattle.ksql_grammar.proofs.Steps.{key_there, sign_there, first_there}
use Rattle.ksql_parser.proofs.UniqueParts.{IsClose, word_at, words_at}

span_read : {s : SpanText} {ts us : List Symbol} → Spells (g.span s) ts us → r.span ts ≡ Some (s, us)
unfolding r.span
span_read (g.a_span {n} {s} {u} {ts} h) =
    bind_is _ (first_there r.digits_of (Number n) (s ∷ ts) n refl) (bind_is _ (first_there unit_of s ts u h) refl)

-- ---- the limits

grace_no_retention : (ts : List Symbol) → r.after_word (codes "RETENTION") (Word (codes "GRACE") ∷ ts) ≡ None
unfolding r.after_word
grace_no_retention ts = refl

retention_read : {o : Option SpanText} {ts us : List Symbol} → Spells (g.retention o) ts us → r.after_retention us ≡ None
    → r.span_at ts (r.after_retention ts) ≡ Some (o, us)
unfolding r.after_retention
retention_read (g.no_retention {ts}) h = ap (r.span_at ts) h
retention_read (g.a_retention {r = w} {s} {ts} {us} e d) h =
    ap (r.span_at (Sign mark.Comma ∷ w ∷ ts)) (bind_is (r.after_word (codes "RETENTION")) (sign_there mark.Comma (w ∷ ts)) (word_at (codes "RETENTION") w ts e))
    ∙ bind_is _ (span_read d) refl

grace_out : {o : Option SpanText} {ts us : List Symbol} → Spells (g.grace o) ts us → r.after_retention us ≡ None → r.after_retention ts ≡ None
unfolding r.after_retention
grace_out g.no_grace h = h
grace_out (g.a_grace {g = w} {p} {s} {ts} {us} e k d) h =
    bind_is (r.after_word (codes "RETENTION")) (sign_there mark.Comma (w ∷ p ∷ ts))
    (ap (λ x. r.after_word (codes "RETENTION") (x ∷ p ∷ ts)) e ∙ grace_no_retention (p ∷ ts))

grace_read : {o : Option SpanText} {ts us : List Symbol} → Spells (g.grace o) ts us → r.after_grace us ≡ None → r.span_at ts (r.after_grace ts) ≡ Some (o, us)
unfolding r.after_grace
grace_read (g.no_grace {ts}) h = ap (r.span_at ts) h
grace_read (g.a_grace {g = w} {p} {s} {ts} {us} e k d) h =
    ap (r.span_at (Sign mark.Comma ∷ w ∷ p ∷ ts))
    (bind_is (r.after_words (codes "GRACE") (codes "PERIOD")) (sign_there mark.Comma (w ∷ p ∷ ts)) (words_at (codes "GRACE") (codes "PERIOD") w p ts e k))
    ∙ bind_is _ (span_read d) refl

close_no_comma : (ts : List Symbol) → after_sign mark.Comma (Sign mark.Close ∷ ts) ≡ None
close_no_comma ts = sign_out mark.Comma IsClose (Sign mark.Close ∷ ts) refl (λ p. cc)

close_no_retention : (ts : List Symbol) → r.after_retention (Sign mark.Close ∷ ts) ≡ None
unfolding r.after_retention
close_no_retention ts = ap (λ o. o >>= r.after_word (codes "RETENTION")) (close_no_comma ts)

close_no_grace : (ts : List Symbol) → r.after_grace (Sign mark.Close ∷ ts) ≡ None
unfolding r.after_grace
close_no_grace ts = ap (λ o. o >>= r.after_words (codes "GRACE") (codes "PERIOD")) (close_no_comma ts)

limits_read : (x y : Option SpanText) (ts us vs : List Symbol) → Spells (g.retention x) ts us → Spells (g.grace y) us (Sign mark.Close ∷ vs)
    → r.limits ts ≡ Some ((x, y), vs)
unfolding r.limits
limits_read x y ts us vs d f =
    bind_is _ (retention_read d (grace_out f (close_no_retention vs)))
    (bind_is _ (grace_read f (close_no_grace vs)) (bind_is _ (sign_there mark.Close vs) refl))

-- ---- windows

size_read : (s : SpanText) (z : Symbol) (ts us : List Symbol) → z ≡ Word (codes "SIZE") → Spells (g.span s) ts us → r.size (Sign mark.Open ∷ z ∷ ts) ≡ Some (s, us)
unfolding r.size
size_read s z ts us h d = bind_is _ (sign_there mark.Open (z ∷ ts)) (bind_is _ (word_at (codes "SIZE") z ts h) (span_read d))

advance_read : (s : SpanText) (w : Symbol) (ts us : List Symbol) → w ≡ Word (codes "ADVANCE") → Spells (g.span s) ts us
    → r.advance (Sign mark.Comma ∷ w ∷ Key key.By ∷ ts) ≡ Some (s, us)
unfolding r.advance
advance_read s w ts us h d =
    bind_is _ (sign_there mark.Comma (w ∷ Key key.By ∷ ts))
    (bind_is _ (word_at (codes "ADVANCE") w (Key key.By ∷ ts) h) (bind_is _ (key_there key.By ts) (span_read d)))

hopping_no_tumbling : (ts : List Symbol) → r.after_word (codes "TUMBLING") (Word (codes "HOPPING") ∷ ts) ≡ None
unfolding r.after_word
hopping_no_tumbling ts = refl

pub window_read : {w : WindowText} {ts us : List Symbol} → Spells (g.window w) ts us → r.window ts ≡ Some (w, us)
unfolding r.window r.tumbling r.hopping
window_read (g.tumbling {t} {z} {size} {r = x} {g = y} {ts} {us} {vs} {ws} e k d f h) =
    ap (λ o. r.window_at o (r.after_word (codes "HOPPING") (t ∷ Sign mark.Open ∷ z ∷ ts))) (word_at (codes "TUMBLING") t (Sign mark.Open ∷ z ∷ ts) e)
    ∙ bind_is _ (size_read size z ts us k d) (bind_is _ (limits_read x y us vs ws f h) refl)
window_read (g.hopping {t} {z} {d = w} {size} {advance} {r = x} {g = y} {ts} {us} {vs} {ws} {xs} e k m d f h q) =
    ap₂ r.window_at
    (ap (λ s. r.after_word (codes "TUMBLING") (s ∷ Sign mark.Open ∷ z ∷ ts)) e ∙ hopping_no_tumbling (Sign mark.Open ∷ z ∷ ts))
    (word_at (codes "HOPPING") t (Sign mark.Open ∷ z ∷ ts) e)
    ∙ bind_is _ (size_read size z ts (Sign mark.Comma ∷ w ∷ Key key.By ∷ us) k d)
    (bind_is _ (advance_read advance w us vs m f) (bind_is _ (limits_read x y vs ws xs h q) refl))
