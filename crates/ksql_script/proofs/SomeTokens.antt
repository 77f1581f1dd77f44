-- Each text has tokens, or a place where none begins.
use Rattle.std.proofs.Common.{◌≡◌, ℕ, zero, suc, ◌<◌, ◌⊎◌, inl, inr, ⊎_elim, List, [], ◌∷◌, ◌++◌, length, Option, Some, None, refl, sym, ap, subst, arith}
use Rattle.ksql_lexer.specs.declared.token.Token.{Token}
use Rattle.ksql_lexer.specs.declared.token.TokenKind.{TokenKind}
use Rattle.ksql_lexer.specs.Piece.{Longest}
use Rattle.ksql_lexer.specs.Script.{Lexes, done, skip, next, statement_after, AreNumbered, kinds, AreTokens, Breaks, BreaksIn}
use Rattle.ksql_lexer.proofs.Steps.{longest_less}
use Rattle.ksql_script.proofs.SomePlaces.{some_place}

-- the kinds of all tokens, or those up to the first bad place
abbrev IsLexed : List ℕ → Type 0
IsLexed text = ((ks : List TokenKind) × Lexes text ks []) ⊎ ((ks : List TokenKind) × (place : List ℕ) × Breaks text ks place)

-- a piece in front
lexed_behind : (text rest : List ℕ) (piece : Option TokenKind) → Longest text piece rest → IsLexed rest → IsLexed text
lexed_behind text rest None l (inl h) = inl (h.0, skip l h.1)
lexed_behind text rest None l (inr h) = inr (h.0, h.1, record { lexes = skip l h.2.lexes; more = h.2.more; nothing = h.2.nothing })
lexed_behind text rest (Some k) l (inl h) = inl (k ∷ h.0, next l h.1)
lexed_behind text rest (Some k) l (inr h) = inr (k ∷ h.0, h.1, record { lexes = next l h.2.lexes; more = h.2.more; nothing = h.2.nothing })

some_lexing : (n : ℕ) (text : List ℕ) → length text < n → IsLexed text
some_lexing zero text short = absurd (omega arith)
some_lexing (suc n) [] short = inl ([], done)
some_lexing (suc n) (b ∷ bs) short =
    ⊎_elim
    (λ h. let less : length h.1 < length (b ∷ bs) = longest_less (b ∷ bs) h.1 h.0 h.2 in lexed_behind (b ∷ bs) h.1 h.0 h.2 (some_lexing n h.1 (omega arith)))
    (λ none. inr ([], b ∷ bs, record { lexes = done; more = λ e. cc; nothing = none }))
    (some_place (b ∷ bs))

-- tokens of these kinds, with their numbers
numbered : (before ks : List TokenKind) → (ts : List Token) × (kinds ts ≡ ks) × AreNumbered before ts
numbered before [] = ([], refl, tt)
numbered before (k ∷ ks) =
    let others = numbered (before ++ k ∷ []) ks in
    (record { kind = k; statement = statement_after before } ∷ others.0, ap (λ l. k ∷ l) others.1, (refl, others.2))

pub some_tokens : (text : List ℕ) → ((ts : List Token) × AreTokens text ts) ⊎ ((s : ℕ) × BreaksIn text s)
some_tokens text =
    ⊎_elim
    (λ h. let ts = numbered [] h.0 in inl (ts.0, record { lexes = subst (λ ks. Lexes text ks []) (sym ts.1) h.1; numbered = ts.2 }))
    (λ h. inr (statement_after h.0, (h.0, h.1, h.2, refl)))
    (some_lexing (suc (length text)) text (omega arith))
