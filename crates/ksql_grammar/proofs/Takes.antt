-- A spelling of an expression takes symbols.
use Rattle.std.proofs.Common.{◌≡◌, ℕ, ◌≤◌, ◌<◌, List, [], ◌∷◌, length, arith}
use Rattle.ksql_grammar.specs.declared.symbol.Symbol.{Symbol}
use Rattle.ksql_grammar.specs.Grammar.{Phrase, Spells, one_conj, or, one_neg, and, not, one_pred, one_sum, compared, is_null, between, one_of, like, plainly, negated, one_prod, added, one_unary, multiplied, signed, one_primary, digits, text, truth, null, cast, case, no_operand, an_operand, last_when, more_whens, no_else, an_else, call, no_arguments, star_argument, some_arguments, name, name_in, parens, last_expr, more_exprs, at, exprs, negation, operand, whens, otherwise, arguments}

-- how much a phrase takes: what isn't optional at least one symbol
abbrev pub Takes : Phrase → List Symbol → List Symbol → Type 0
Takes (at l a) ts us = length us < length ts
Takes (exprs es) ts us = length us < length ts
Takes (whens ws) ts us = length us < length ts
Takes (negation n) ts us = length us ≤ length ts
Takes (operand o) ts us = length us ≤ length ts
Takes (otherwise o) ts us = length us ≤ length ts
Takes (arguments s es) ts us = length us ≤ length ts

pub takes : {p : Phrase} {ts us : List Symbol} → Spells p ts us → Takes p ts us
takes (one_conj d) = takes d
takes (or d h f) = let a = takes d in let b = takes f in omega arith
takes (one_neg d) = takes d
takes (and d h f) = let a = takes d in let b = takes f in omega arith
takes (not d) = let a = takes d in omega arith
takes (one_pred d) = takes d
takes (one_sum d) = takes d
takes (compared d h f) = let a = takes d in let b = takes f in omega arith
takes (is_null d m) = let a = takes d in let b = takes m in omega arith
takes (between d m f g) = let a = takes d in let b = takes m in let x = takes f in let y = takes g in omega arith
takes (one_of d m f) = let a = takes d in let b = takes m in let x = takes f in omega arith
takes (like d m) = let a = takes d in let b = takes m in omega arith
takes plainly = omega arith
takes negated = omega arith
takes (one_prod d) = takes d
takes (added d h f) = let a = takes d in let b = takes f in omega arith
takes (one_unary d) = takes d
takes (multiplied d h f) = let a = takes d in let b = takes f in omega arith
takes (signed h d) = let a = takes d in omega arith
takes (one_primary d) = takes d
takes digits = omega arith
takes text = omega arith
takes (truth h) = omega arith
takes null = omega arith
takes (cast d h) = let a = takes d in omega arith
takes (case x w y) = let a = takes x in let b = takes w in let z = takes y in omega arith
takes no_operand = omega arith
takes (an_operand d) = let a = takes d in omega arith
takes (last_when d f) = let a = takes d in let b = takes f in omega arith
takes (more_whens d f g) = let a = takes d in let b = takes f in let z = takes g in omega arith
takes no_else = omega arith
takes (an_else d) = let a = takes d in omega arith
takes (call h d) = let a = takes d in omega arith
takes no_arguments = omega arith
takes star_argument = omega arith
takes (some_arguments d) = let a = takes d in omega arith
takes (name h) = omega arith
takes (name_in h k) = omega arith
takes (parens d) = let a = takes d in omega arith
takes (last_expr d) = takes d
takes (more_exprs d f) = let a = takes d in let b = takes f in omega arith
