-- In JSON that is read of a text of UTF-8, each string is of UTF-8.
use Rattle.std.proofs.Common.{ℕ, zero, suc, List, [], ◌∷◌, length, Option, Some, None}
use Rattle.std.specs.Prelude.{IfSome, option_map, option_and_then}
use Rattle.std.specs.Ordering.{match_ordering, nat_cmp}
use Rattle.std.specs.Cmp.Lexicographic.{slice_cmp}
use Rattle.std.specs.declared.cmp.Ordering.{Ordering}
use Rattle.std.specs.declared.cmp.Ordering.TheVariants.{Less, Equal, Greater}
use Rattle.std.specs.Str.{IsUtf8}
use Rattle.json.specs.Json as json
use Rattle.json.specs.Json.{Parse, after_end_array, if_last, items, items_step, members, members_step, parse_map, read_key, value, value_with}
use Rattle.json.specs.Lex.{tokens}
use Rattle.json.specs.Token.{Token}
use Rattle.serde_json.specs.Data as tree
use Rattle.serde_json.specs.Data.{Data, Items, Members, put}
use Rattle.serde_json.specs.Read.{max_depth, number_of, of_items, of_json, of_members, read}
use Rattle.feed_laws.proofs.Tokens.{AreTokens, text-tokens}

-- ---- what is parsed

-- each string of JSON is of UTF-8, names aside
abbrev mutual
  IsTextJson : json.Json → Type 0
  IsTextJson json.null = Unit {0}
  IsTextJson (json.boolean b) = Unit {0}
  IsTextJson (json.number s) = Unit {0}
  IsTextJson (json.string s) = IsUtf8 s
  IsTextJson (json.array js) = AreTextItems js
  IsTextJson (json.object ms) = AreTextMembers ms

  AreTextItems : json.Items → Type 0
  AreTextItems json.no_items = Unit {0}
  AreTextItems (json.item j js) = IsTextJson j × AreTextItems js

  AreTextMembers : json.Members → Type 0
  AreTextMembers json.no_members = Unit {0}
  AreTextMembers (json.member k j ms) = IsTextJson j × AreTextMembers ms

-- a property of what is read, where the remaining tokens are texts
abbrev OnRead : {A : Type 0} → (A → Type 0) → Option (A × List Token) → Type 0
OnRead P r = IfSome r (λ q. P q.0 × AreTokens q.1)

mapped : {A B : Type 0} (f : A → B) (P : A → Type 0) (Q : B → Type 0) → ((a : A) → P a → Q (f a)) → (r : Option (A × List Token)) → OnRead P r → OnRead Q (parse_map f r)
mapped f P Q to None is = tt
mapped f P Q to (Some q) is = (to q.0 is.0, is.1)

end-left : (ts : List Token) → AreTokens ts → IfSome (after_end_array ts) AreTokens
end-left [] are = tt
end-left (Token.begin_object ∷ ts) are = tt
end-left (Token.end_object ∷ ts) are = tt
end-left (Token.begin_array ∷ ts) are = tt
end-left (Token.end_array ∷ ts) are = are.1
end-left (Token.key s ∷ ts) are = tt
end-left (Token.string s ∷ ts) are = tt
end-left (Token.number s ∷ ts) are = tt
end-left (Token.boolean b ∷ ts) are = tt
end-left (Token.null ∷ ts) are = tt
end-left (Token.bad ∷ ts) are = tt

key-left : (ts : List Token) → AreTokens ts → IfSome (read_key ts) (λ q. AreTokens q.1)
key-left [] are = tt
key-left (Token.begin_object ∷ ts) are = tt
key-left (Token.end_object ∷ ts) are = are.1
key-left (Token.begin_array ∷ ts) are = tt
key-left (Token.end_array ∷ ts) are = tt
key-left (Token.key s ∷ ts) are = are.1
key-left (Token.string s ∷ ts) are = tt
key-left (Token.number s ∷ ts) are = tt
key-left (Token.boolean b ∷ ts) are = tt
key-left (Token.null ∷ ts) are = tt
key-left (Token.bad ∷ ts) are = tt

module _ (p : Parse json.Json) (each : (ts : List Token) → AreTokens ts → OnRead IsTextJson (p ts)) where
  text-items : (n : ℕ) (ts : List Token) → AreTokens ts → OnRead AreTextItems (items p n ts)
  unfolding items
  text-items zero ts are = tt
  text-items (suc n) ts are = by (after_end_array ts) (end-left ts are) (λ more are-more. text-items n more are-more)
    where
      one : (o : Option (json.Json × List Token)) → OnRead IsTextJson o → ((more : List Token) → AreTokens more → OnRead AreTextItems (items p n more)) →
          OnRead AreTextItems (option_and_then (λ q. parse_map (json.item q.0) (items p n q.1)) o)
      one None is ih = tt
      one (Some q) is ih = mapped (json.item q.0) AreTextItems AreTextItems (λ js are-js. (is.0, are-js)) (items p n q.1) (ih q.1 is.1)

      by : (o : Option (List Token)) → IfSome o AreTokens → ((more : List Token) → AreTokens more → OnRead AreTextItems (items p n more)) →
          OnRead AreTextItems (items_step p (items p n) ts o)
      by None left ih = one (p ts) (each ts are) ih
      by (Some rest) left ih = (tt, left)

  text-members : (n : ℕ) (ts : List Token) → AreTokens ts → OnRead AreTextMembers (members p n ts)
  unfolding members
  text-members zero ts are = tt
  text-members (suc n) ts are = by (read_key ts) (key-left ts are) (λ more are-more. text-members n more are-more)
    where
      one : (k : List ℕ) (o : Option (json.Json × List Token)) → OnRead IsTextJson o → ((more : List Token) → AreTokens more → OnRead AreTextMembers (members p n more)) →
          OnRead AreTextMembers (option_and_then (λ q. parse_map (json.member k q.0) (members p n q.1)) o)
      one k None is ih = tt
      one k (Some q) is ih = mapped (json.member k q.0) AreTextMembers AreTextMembers (λ ms are-ms. (is.0, are-ms)) (members p n q.1) (ih q.1 is.1)

      named : (name : Option (List ℕ)) (rest : List Token) → AreTokens rest → ((more : List Token) → AreTokens more → OnRead AreTextMembers (members p n more)) →
          OnRead AreTextMembers (members_step p (members p n) name rest)
      named None rest left ih = (tt, left)
      named (Some k) rest left ih = one k (p rest) (each rest left) ih

      by : (o : Option (Option (List ℕ) × List Token)) → IfSome o (λ q. AreTokens q.1) → ((more : List Token) → AreTokens more → OnRead AreTextMembers (members p n more)) →
          OnRead AreTextMembers (option_and_then (λ q. members_step p (members p n) q.0 q.1) o)
      by None left ih = tt
      by (Some q) left ih = named q.0 q.1 left ih

text-with : (a : Parse json.Items) (o : Parse json.Members) → ((ts : List Token) → AreTokens ts → OnRead AreTextItems (a ts)) →
    ((ts : List Token) → AreTokens ts → OnRead AreTextMembers (o ts)) → (ts : List Token) → AreTokens ts → OnRead IsTextJson (value_with a o ts)
text-with a o on-items on-members [] are = tt
text-with a o on-items on-members (Token.begin_object ∷ ts) are = mapped json.object AreTextMembers IsTextJson (λ ms is. is) (o ts) (on-members ts are.1)
text-with a o on-items on-members (Token.end_object ∷ ts) are = tt
text-with a o on-items on-members (Token.begin_array ∷ ts) are = mapped json.array AreTextItems IsTextJson (λ js is. is) (a ts) (on-items ts are.1)
text-with a o on-items on-members (Token.end_array ∷ ts) are = tt
text-with a o on-items on-members (Token.key s ∷ ts) are = tt
text-with a o on-items on-members (Token.string s ∷ ts) are = (are.0, are.1)
text-with a o on-items on-members (Token.number s ∷ ts) are = (tt, are.1)
text-with a o on-items on-members (Token.boolean b ∷ ts) are = (tt, are.1)
text-with a o on-items on-members (Token.null ∷ ts) are = (tt, are.1)
text-with a o on-items on-members (Token.bad ∷ ts) are = tt

text-value : (depth : ℕ) (ts : List Token) → AreTokens ts → OnRead IsTextJson (value depth ts)
unfolding value
text-value zero ts are = text-with (λ us. None) (λ us. None) (λ us are-us. tt) (λ us are-us. tt) ts are
text-value (suc depth) ts are =
    text-with (λ us. items (value depth) (length us) us) (λ us. members (value depth) (length us) us)
    (λ us are-us. text-items (value depth) (λ vs are-vs. text-value depth vs are-vs) (length us) us are-us)
    (λ us are-us. text-members (value depth) (λ vs are-vs. text-value depth vs are-vs) (length us) us are-us) ts are

-- ---- as data

-- each string in data is of UTF-8, names aside
abbrev mutual
  pub IsTextData : Data → Type 0
  IsTextData tree.null = Unit {0}
  IsTextData (tree.boolean b) = Unit {0}
  IsTextData (tree.number n) = Unit {0}
  IsTextData (tree.string s) = IsUtf8 s
  IsTextData (tree.array ds) = AreTextDatas ds
  IsTextData (tree.object ms) = AreTextFields ms

  pub AreTextDatas : Items → Type 0
  AreTextDatas tree.no_items = Unit {0}
  AreTextDatas (tree.item d ds) = IsTextData d × AreTextDatas ds

  pub AreTextFields : Members → Type 0
  AreTextFields tree.no_members = Unit {0}
  AreTextFields (tree.member k d ms) = IsTextData d × AreTextFields ms

text-put : (k : List ℕ) (d : Data) (ms : Members) → IsTextData d → AreTextFields ms → AreTextFields (put k d ms)
text-put k d tree.no_members is are = (is, tt)
text-put k d (tree.member l e ms) is are = by (slice_cmp nat_cmp k l) (text-put k d ms is are.1)
  where
    by : (o : Ordering) → AreTextFields (put k d ms) → AreTextFields (match_ordering o (tree.member k d (tree.member l e ms)) (tree.member l d ms) (tree.member l e (put k d ms)))
    by Less rest = (is, are)
    by Equal rest = (is, are.1)
    by Greater rest = (are.0, rest)

-- a property of something holds of its image
pub onto : {A B : Type 0} (f : A → B) (P : A → Type 0) (Q : B → Type 0) → ((a : A) → P a → Q (f a)) → (o : Option A) → IfSome o P → IfSome (option_map f o) Q
onto f P Q to None is = tt
onto f P Q to (Some a) is = to a is

pub onward : {A B : Type 0} (f : A → Option B) (P : A → Type 0) (Q : B → Type 0) → ((a : A) → P a → IfSome (f a) Q) → (o : Option A) → IfSome o P → IfSome (option_and_then f o) Q
onward f P Q to None is = tt
onward f P Q to (Some a) is = to a is

pub anything : {A : Type 0} (o : Option A) → IfSome o (λ _. Unit {0})
anything None = tt
anything (Some a) = tt

mutual
  text-of_json : (j : json.Json) → IsTextJson j → IfSome (of_json j) IsTextData
  text-of_json json.null is = tt
  text-of_json (json.boolean b) is = tt
  text-of_json (json.number s) is = onto tree.number (λ _. Unit {0}) IsTextData (λ n _. tt) (number_of s) (anything (number_of s))
  text-of_json (json.string s) is = is
  text-of_json (json.array js) is = onto tree.array AreTextDatas IsTextData (λ ds are. are) (of_items js) (text-of_items js is)
  text-of_json (json.object ms) is = onto tree.object AreTextFields IsTextData (λ fs are. are) (of_members ms tree.no_members) (text-of_members ms tree.no_members is tt)

  text-of_items : (js : json.Items) → AreTextItems js → IfSome (of_items js) AreTextDatas
  text-of_items json.no_items are = tt
  text-of_items (json.item j js) are =
      onward (λ d. option_map (tree.item d) (of_items js)) IsTextData AreTextDatas
      (λ d is. onto (tree.item d) AreTextDatas AreTextDatas (λ ds rest. (is, rest)) (of_items js) (text-of_items js are.1)) (of_json j) (text-of_json j are.0)

  text-of_members : (ms : json.Members) (found : Members) → AreTextMembers ms → AreTextFields found → IfSome (of_members ms found) AreTextFields
  text-of_members json.no_members found are before = before
  text-of_members (json.member k j ms) found are before =
      onward (λ d. of_members ms (put k d found)) IsTextData AreTextFields
      (λ d is. text-of_members ms (put k d found) are.1 (text-put k d found is before)) (of_json j) (text-of_json j are.0)

text-last : (j : json.Json) (rest : List Token) → IsTextJson j → IfSome (if_last j rest) IsTextJson
text-last j [] is = is
text-last j (t ∷ rest) is = tt

-- what is read of a UTF-8 text
pub text-read : (text : List ℕ) → IsUtf8 text → IfSome (read text) IsTextData
text-read text utf8 =
    onward of_json IsTextJson IsTextData (λ j is. text-of_json j is) (option_and_then (λ p. if_last p.0 p.1) (value max_depth (tokens text)))
    (onward (λ p. if_last p.0 p.1) (λ p. IsTextJson p.0 × AreTokens p.1) IsTextJson (λ p is. text-last p.0 p.1 is.0) (value max_depth (tokens text))
    (text-value max_depth (tokens text) (text-tokens text utf8)))
