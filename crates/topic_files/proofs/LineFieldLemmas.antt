-- The fields of a line's object: as its members are read, and as they make a record.
use Rattle.std.proofs.Common.{◌≡◌, ℕ, ◌<◌, List, [], ◌∷◌, length, codes, Bool, true, false, true≢false, cond, not, bytes_eq, Option, Some, None, is_some, option_map, option_and_then, refl, sym, ap, ◌∙◌, arith}
use Rattle.std.proofs.lemmas.Slice.Eq.{bytes_eq-Decides}
use Rattle.json.specs.Token.{Token}
use Rattle.std.specs.Prelude.{MatchOption}
use Rattle.json.specs.Lex.{tokens}
use Rattle.json.specs.Reads.{token_of}
use Rattle.json.specs.declared.token.Token.{Token as Read}
use Rattle.json.specs.Json as json
use Rattle.json.specs.Json.{Parse, if_last, items, members, parse_map, read_key, value}
use Rattle.json.proofs.Grammar.{value_is}
use Rattle.serde_json.specs.Data.{Data, Items, Members, Num, array, boolean, no_members, null, number, object, put, string}
use Rattle.serde_json.specs.Find.{get_member}
use Rattle.serde_json.specs.Read.{converted, number_of, of_items, of_json, of_members, read}
use Rattle.serde_json.proofs.Views.{get_member-put, get_member-put_other}
use Rattle.ksql_types.specs.declared.relation.Relation.{Relation}
use Rattle.topic_files.specs.LineFields.{Fields, after_begin_object, fed_in, field_after, fields_in, fields_of, if_read, members_within}
use Rattle.topic_files.specs.Record.{fed_of, fed_of_data}
use Rattle.topic_files.specs.TopicLine.{data_of}
use Rattle.topic_files.proofs.ReadLemmas.{MembersRead, all_members_read, no_key_reads, no_member_reads, no_members_read, one_member_read}

-- ---- one more member

-- after a member is put, it is found by its name, and by other names what was found before
get_member-after : (name own : List ℕ) (d : Data) (ms : Members) → get_member own (put name d ms) ≡ field_after name d own (get_member own ms)
get_member-after name own d ms = by_test (bytes_eq name own) refl
  where
    by_test : (b : Bool) → bytes_eq name own ≡ b → get_member own (put name d ms) ≡ cond b (Some d) (get_member own ms)
    by_test true e = let same : name ≡ own = (bytes_eq-Decides name own).0 e in ap (λ k. get_member own (put k d ms)) same ∙ get_member-put own d ms
    by_test false e = get_member-put_other own name d ms (λ same. true≢false (sym ((bytes_eq-Decides name own).1 (sym same)) ∙ e))

-- of all tokens of an object's members some have been read, with these fields, and these tokens are left
pub record FieldsRead (p : Parse json.Json) (all : List Token) (fields : Fields) (left : List Token) : Type 0 where
  pub before : Members
  pub read : MembersRead p all before left
  pub time_is : fields.time ≡ get_member (codes "t") before
  pub key_is : fields.key ≡ get_member (codes "k") before
  pub value_is : fields.value ≡ get_member (codes "v") before

pub no_fields_read : (p : Parse json.Json) (all : List Token) (fields : Fields) → fields ≡ fields_in no_members → FieldsRead p all fields all
no_fields_read p all fields none = record {
  before = no_members;
  read = no_members_read p all;
  time_is = ap (λ f. f.time) none;
  key_is = ap (λ f. f.key) none;
  value_is = ap (λ f. f.value) none;
}

module _ (p : Parse json.Json) (all : List Token) (fields : Fields) (left : List Token) (so_far : FieldsRead p all fields left) where
  pub one_field_read : (name : List ℕ) (d : Data) (more : Fields) (after rest : List Token) → read_key left ≡ Some (Some name, after) → Some (d, rest) ≡ converted of_json (p after)
      → length rest < length after → more.time ≡ field_after name d (codes "t") fields.time → more.key ≡ field_after name d (codes "k") fields.key
      → more.value ≡ field_after name d (codes "v") fields.value → FieldsRead p all more rest
  one_field_read name d more after rest key is less time_is key_is value_is = record {
    before = put name d so_far.before;
    read = one_member_read p all so_far.before left so_far.read name d after rest key is less;
    time_is = time_is ∙ ap (field_after name d (codes "t")) so_far.time_is ∙ sym (get_member-after name (codes "t") d so_far.before);
    key_is = key_is ∙ ap (field_after name d (codes "k")) so_far.key_is ∙ sym (get_member-after name (codes "k") d so_far.before);
    value_is = value_is ∙ ap (field_after name d (codes "v")) so_far.value_is ∙ sym (get_member-after name (codes "v") d so_far.before);
  }

  same_fields : fields ≡ fields_in so_far.before
  same_fields = λ i. record { time = so_far.time_is i; key = so_far.key_is i; value = so_far.value_is i }

  pub all_fields_read : (rest : List Token) → read_key left ≡ Some (None, rest)
      → Some (fields, rest) ≡ parse_map fields_in (converted (λ ms. of_members ms no_members) (members p (length all) all))
  all_fields_read rest over = ap (λ f. Some (f, rest)) same_fields ∙ sym (ap (parse_map fields_in) (all_members_read p all so_far.before left so_far.read rest over))

  pub no_field_name : read_key left ≡ None → None ≡ parse_map fields_in (converted (λ ms. of_members ms no_members) (members p (length all) all))
  no_field_name none = sym (ap (parse_map fields_in) (no_key_reads p all so_far.before left so_far.read none))

  pub no_field_reads : (name : List ℕ) (after : List Token) → read_key left ≡ Some (Some name, after) → None ≡ converted of_json (p after)
      → None ≡ parse_map fields_in (converted (λ ms. of_members ms no_members) (members p (length all) all))
  no_field_reads name after key is = sym (ap (parse_map fields_in) (no_member_reads p all so_far.before left so_far.read name after key is))

-- ---- a whole text

-- the fields of a value read from these tokens, if no token remains
abbrev whole : List Token → Option Fields
whole ts = option_and_then fields_of (option_and_then of_json (option_and_then (λ p. if_last p.0 p.1) (value 127 ts)))

no_fields_last : (j : json.Json) (rest : List Token) → option_and_then fields_of (of_json j) ≡ None → option_and_then fields_of (option_and_then of_json (if_last j rest)) ≡ None
no_fields_last j [] none = none
no_fields_last j (t ∷ ts) none = refl

number_has_none : (o : Option Num) → option_and_then fields_of (option_map number o) ≡ None
number_has_none None = refl
number_has_none (Some n) = refl

array_has_none : (o : Option Items) → option_and_then fields_of (option_map array o) ≡ None
array_has_none None = refl
array_has_none (Some ds) = refl

array_whole : (o : Option (json.Items × List Token))
    → option_and_then fields_of (option_and_then of_json (option_and_then (λ p. if_last p.0 p.1) (parse_map json.array o))) ≡ None
array_whole None = refl
array_whole (Some p) = no_fields_last (json.array p.0) p.1 (array_has_none (of_items p.0))

-- what is no object has no fields
pub no_object : (text : List ℕ) → after_begin_object (tokens text) ≡ None → option_and_then fields_of (read text) ≡ None
unfolding value
no_object text none = by_tokens (tokens text) none
  where
    by_tokens : (ts : List Token) → after_begin_object ts ≡ None → whole ts ≡ None
    by_tokens [] e = refl
    by_tokens (Token.begin_object ∷ ts) e = cc
    by_tokens (Token.end_object ∷ ts) e = refl
    by_tokens (Token.begin_array ∷ ts) e = array_whole (items (value 126) (length ts) ts)
    by_tokens (Token.end_array ∷ ts) e = refl
    by_tokens (Token.key s ∷ ts) e = refl
    by_tokens (Token.string s ∷ ts) e = no_fields_last (json.string s) ts refl
    by_tokens (Token.number s ∷ ts) e = no_fields_last (json.number s) ts (number_has_none (number_of s))
    by_tokens (Token.boolean b ∷ ts) e = no_fields_last (json.boolean b) ts refl
    by_tokens (Token.null ∷ ts) e = no_fields_last json.null ts refl
    by_tokens (Token.bad ∷ ts) e = refl

-- fields, if no token remains
abbrev if_end : Fields → List Token → Option Fields
if_end fields [] = Some fields
if_end fields (t ∷ ts) = None

object_last : (ms : json.Members) (rest : List Token) (o : Option Members) → of_members ms no_members ≡ o
    → option_and_then fields_of (option_and_then of_json (if_last (json.object ms) rest))
    ≡ option_and_then (λ p. if_end p.0 p.1) (parse_map fields_in (option_map (λ b. (b, rest)) o))
object_last ms [] None is = ap (λ o. option_and_then fields_of (option_map object o)) is
object_last ms [] (Some found) is = ap (λ o. option_and_then fields_of (option_map object o)) is
object_last ms (t ∷ ts) None is = refl
object_last ms (t ∷ ts) (Some found) is = refl

object_whole : (o : Option (json.Members × List Token))
    → option_and_then fields_of (option_and_then of_json (option_and_then (λ p. if_last p.0 p.1) (parse_map json.object o)))
    ≡ option_and_then (λ p. if_end p.0 p.1) (parse_map fields_in (converted (λ ms. of_members ms no_members) o))
object_whole None = refl
object_whole (Some p) = object_last p.0 p.1 (of_members p.0 no_members) refl

-- after the brace that opens an object come its members
begun : (text : List ℕ) (left : List Token) → after_begin_object (tokens text) ≡ Some left
    → option_and_then fields_of (read text) ≡ option_and_then (λ p. if_end p.0 p.1) (parse_map fields_in (members_within 126 left))
unfolding value
begun text left opens = by_tokens (tokens text) opens
  where
    by_tokens : (ts : List Token) → after_begin_object ts ≡ Some left
        → whole ts ≡ option_and_then (λ p. if_end p.0 p.1) (parse_map fields_in (members_within 126 left))
    by_tokens [] e = cc
    by_tokens (Token.begin_object ∷ ts) e =
        let same : ts ≡ left = cc in
        object_whole (members (value 126) (length ts) ts) ∙ ap (λ l. option_and_then (λ p. if_end p.0 p.1) (parse_map fields_in (members_within 126 l))) same
    by_tokens (Token.end_object ∷ ts) e = cc
    by_tokens (Token.begin_array ∷ ts) e = cc
    by_tokens (Token.end_array ∷ ts) e = cc
    by_tokens (Token.key s ∷ ts) e = cc
    by_tokens (Token.string s ∷ ts) e = cc
    by_tokens (Token.number s ∷ ts) e = cc
    by_tokens (Token.boolean b ∷ ts) e = cc
    by_tokens (Token.null ∷ ts) e = cc
    by_tokens (Token.bad ∷ ts) e = cc

ended : (o : Option Fields) → o ≡ option_and_then (λ p. if_end p.0 p.1) (option_map {U = Fields × List Token} (λ f. (f, [])) o)
ended None = refl
ended (Some f) = refl

not_ended : (o : Option Fields) (t : Token) (ts : List Token) → None ≡ option_and_then (λ p. if_end p.0 p.1) (option_map {U = Fields × List Token} (λ f. (f, t ∷ ts)) o)
not_ended None t ts = refl
not_ended (Some f) t ts = refl

-- the text of an object, by what was read of its members
module _ (text : List ℕ) (left : List Token) (opens : after_begin_object (tokens text) ≡ Some left) where
  -- members that don't end as an object make no JSON
  pub no_end : None ≡ parse_map fields_in (members_within 126 left) → None ≡ option_and_then fields_of (read text)
  no_end is = ap (option_and_then (λ (p : Fields × List Token). if_end p.0 p.1)) is ∙ sym (begun text left opens)

  -- the fields of an object's members that end the text are the text's
  whole_object : (rest : List Token) (found : Option Fields) → option_map (λ f. (f, rest)) found ≡ parse_map fields_in (members_within 126 left)
      → rest ≡ [] → found ≡ option_and_then fields_of (read text)
  whole_object rest found is end =
      ended found
      ∙ ap (λ r. option_and_then (λ (p : Fields × List Token). if_end p.0 p.1) (option_map (λ f. (f, r)) found)) (sym end)
      ∙ ap (option_and_then (λ (p : Fields × List Token). if_end p.0 p.1)) is ∙ sym (begun text left opens)

  -- where more follows, the text is no JSON
  more_follows : (t : Token) (rest : List Token) (found : Option Fields) → option_map (λ f. (f, t ∷ rest)) found ≡ parse_map fields_in (members_within 126 left)
      → None ≡ option_and_then fields_of (read text)
  more_follows t rest found is =
      not_ended found t rest ∙ ap (option_and_then (λ (p : Fields × List Token). if_end p.0 p.1)) is ∙ sym (begun text left opens)

  -- the fields of an object's members are the text's if no token comes next
  pub if_last_read : (rest new : List Token) (next : Option Read) (ends : Bool) (fields : Fields) → Some (fields, rest) ≡ parse_map fields_in (members_within 126 left)
      → MatchOption next ((rest ≡ []) × (new ≡ [])) (λ t. rest ≡ token_of t ∷ new) → is_some next ≡ not ends → if_read ends fields ≡ option_and_then fields_of (read text)
  if_last_read rest new None true fields is left_over e = whole_object rest (Some fields) is left_over.0
  if_last_read rest new None false fields is left_over e = cc
  if_last_read rest new (Some t) true fields is left_over e = cc
  if_last_read rest new (Some t) false fields is left_over e = more_follows (token_of t) new (Some fields) (ap (λ ts. Some (fields, ts)) (sym left_over) ∙ is)

-- ---- the record of a line

by_data : (relation : Relation) (d : Data) → fed_of_data relation d ≡ option_and_then (fed_in relation) (fields_of d)
by_data relation null = refl
by_data relation (boolean b) = refl
by_data relation (number n) = refl
by_data relation (string s) = refl
by_data relation (array ds) = refl
by_data relation (object ms) = refl

-- the record of a line is that of its fields
pub fed_of-fields : (relation : Relation) (line : List ℕ) → option_and_then (fed_in relation) (option_and_then fields_of (data_of line)) ≡ fed_of relation line
fed_of-fields relation line = by_line (data_of line)
  where
    by_line : (o : Option Data) → option_and_then (fed_in relation) (option_and_then fields_of o) ≡ option_and_then (fed_of_data relation) o
    by_line None = refl
    by_line (Some d) = sym (by_data relation d)
