-- The topic file of a demo has no fault.
use Rattle.std.proofs.Common.{◌≡◌, ◌∙◌, ap, refl, sym, ℕ, zero, suc, ◌+◌, ◌<◌, ◌≤◌, ◌*◌, ◌%◌, ◌^◌, Bool, true, false, not, List, [], ◌∷◌, ◌++◌, append_assoc, append-nil, codes, length, length-append, map, mod-lt, lt-ltb, ne_eqb, arith, IsUtf8}
use Rattle.std.proofs.lemmas.Bool.{and_from, and_parts, le-leb, le-ltb, ltb-true}
use Rattle.std.proofs.lemmas.Fmt.{decimal_digit, decimal_is_IsNumeral, length-decimal-le}
use Rattle.std.proofs.lemmas.List.Folds.{list_all-append}
use Rattle.std.proofs.lemmas.List.Splits.{slice_split-cons_no, slice_split-cons_yes}
use Rattle.std.proofs.Math.Nat.{min-le_right}
use Rattle.std.proofs.lemmas.List.Sums.{count_by-le-length, length-filter}
use Rattle.std.specs.List.{list_all, onto_first, range_with_len, slice_split}
use Rattle.std.specs.Prelude.{◌&&◌, count_by, nat_le, nat_lt, decimal, is_some, flat_map, Option, None, Some, option_and_then}
use Rattle.std.specs.Str.Parse.{AllDigits}
use Rattle.std.proofs.lemmas.Str.Parse.{digit_at}
use Rattle.std.specs.Int.{IsInRange}
use Rattle.topic_files.specs.TopicLine.{topic_time}
use Rattle.topic_files.specs.File.{is_topic_line, bytes_of, bytes_taken, first_fault, first_fault_behind, passes}
use Rattle.topic_files.proofs.LineLemmas.{data_of-read}
use Rattle.json.proofs.Printed.Decimals.{IsNumber-decimal}
use Rattle.json.proofs.Printed.Strings.{escape_byte_plain}
use Rattle.json.proofs.Printed.Tokens.{tokens-print}
use Rattle.json.proofs.Printed.Utf8.{are_ascii, IsUtf8-are_ascii}
use Rattle.json.specs.Json as json
use Rattle.json.specs.Lex.{tokens}
use Rattle.json.specs.Print.{ArePrintable, escape_byte, print, print_from}
use Rattle.json.specs.Token.{Token}
use Rattle.json.specs.Tree.{json_tokens}
use Rattle.json.proofs.Printed.Trees.{ArePrintable-json_tokens, value-json_tokens}
use Rattle.serde_json.proofs.Numbers.{number_of-decimal}
use Rattle.serde_json.specs.Data.{Data, Num}
use Rattle.serde_json.specs.Data as tree
use Rattle.serde_json.specs.Read.{of_json, read}
use Rattle.topic_files.specs.Lines.{is_blank, is_line_feed, lines_of, record_lines, without_empty_end}
use Rattle.ksql_cli.specs.Command.{whole_room}
use Rattle.demo_files.specs.Demo.{demo_line, demo_topic_file}

-- ---- the bytes of a line

-- a byte that is a printed sign of ASCII
abbrev pub is_seen : ℕ → Bool
is_seen byte = nat_lt 31 byte && nat_lt byte 128

-- each byte is
abbrev pub AreSeen : List ℕ → Type 0
AreSeen xs = list_all is_seen xs ≡ true

pub seen-both : (xs ys : List ℕ) → AreSeen xs → AreSeen ys → AreSeen (xs ++ ys)
seen-both xs ys first second = list_all-append is_seen xs ys ∙ and_from (list_all is_seen xs) (list_all is_seen ys) first second

-- a line from after its page on
abbrev number_part : ℕ → List ℕ
number_part i = codes "\",\"N\":" ++ (decimal (i % 100) ++ codes "}}")

-- from after its key on
abbrev page_part : ℕ → List ℕ
page_part i = codes ",\"v\":{\"PAGE\":\"p" ++ (decimal (i % 10) ++ number_part i)

-- from after its time on
abbrev key_part : ℕ → List ℕ
key_part i = codes ",\"k\":" ++ (decimal (i % 1000) ++ page_part i)

-- the line of record i without its line feed
abbrev pub line_text : ℕ → List ℕ
line_text i = codes "{\"t\":" ++ (decimal (1000 * i) ++ key_part i)

line-text : (i : ℕ) (ys : List ℕ) → demo_line i ++ ys ≡ line_text i ++ 10 ∷ ys
unfolding demo_line
line-text i ys = simp append_assoc refl

-- a line whose page and what follows it are this
abbrev before_page : ℕ → List ℕ → List ℕ
before_page i rest = codes "{\"t\":" ++ (decimal (1000 * i) ++ (codes ",\"k\":" ++ (decimal (i % 1000) ++ (codes ",\"v\":{\"PAGE\":\"" ++ rest))))

-- the JSON of a line
abbrev line_json : ℕ → json.Json
line_json i =
    json.object (json.member (codes "t") (json.number (decimal (1000 * i))) (json.member (codes "k") (json.number (decimal (i % 1000)))
    (json.member (codes "v") (json.object (json.member (codes "PAGE") (json.string (112 ∷ (48 + i % 10) ∷ [])) (json.member (codes "N") (json.number (decimal (i % 100))) json.no_members))) json.no_members)))

printed-line : (i : ℕ) → print (json_tokens (line_json i)) ≡ before_page i ((112 ∷ (escape_byte (48 + i % 10) ++ []) ++ 34 ∷ []) ++ (44 ∷ 34 ∷ 78 ∷ 34 ∷ 58 ∷ decimal (i % 100) ++ codes "}}"))
unfolding print_from escape_byte
printed-line i = refl

page-low : (i : ℕ) → i % 10 < 10
page-low i = mod-lt i (omega arith)

page-escaped : (i : ℕ) → escape_byte (48 + i % 10) ≡ (48 + i % 10) ∷ []
page-escaped i = escape_byte_plain (48 + i % 10) (λ e. omega (arith, e)) (λ e. let low : i % 10 < 10 = page-low i in omega (arith, e, low)) (omega arith)

line-printed : (i : ℕ) → print (json_tokens (line_json i)) ≡ line_text i
line-printed i =
    printed-line i
    ∙ ap (λ (xs : List ℕ). before_page i ((112 ∷ (xs ++ []) ++ 34 ∷ []) ++ (44 ∷ 34 ∷ 78 ∷ 34 ∷ 58 ∷ decimal (i % 100) ++ codes "}}"))) (page-escaped i)
    ∙ ap (λ (xs : List ℕ). before_page i (112 ∷ (xs ++ number_part i))) (sym (decimal_digit (i % 10) (page-low i)))

-- ---- what is read of a line

rest-small : (i m : ℕ) → 0 < m → m < 10000 → i % m < 10000
rest-small i m some small = let less : i % m < m = mod-lt i some in omega (arith, less, small)

time-small : (i : ℕ) → i < 100000 → 1000 * i < 2 ^ 64
time-small i few = omega (arith, few)

key-small : (i : ℕ) → i % 1000 < 2 ^ 64
key-small i = let low : i % 1000 < 10000 = rest-small i 1000 (omega arith) (omega arith) in omega (arith, low)

number-small : (i : ℕ) → i % 100 < 2 ^ 64
number-small i = let low : i % 100 < 10000 = rest-small i 100 (omega arith) (omega arith) in omega (arith, low)

line-numbers : (i : ℕ) → i < 100000 → ArePrintable (json_tokens (line_json i))
line-numbers i few =
    ArePrintable-json_tokens (line_json i)
    (IsNumber-decimal (1000 * i) (time-small i few), (IsNumber-decimal (i % 1000) (key-small i), ((tt, (IsNumber-decimal (i % 100) (number-small i), tt)), tt)))

-- the data of a line, whose names are sorted
abbrev line_data : ℕ → Data
line_data i =
    tree.object (tree.member (codes "k") (tree.number (tree.unsigned (i % 1000))) (tree.member (codes "t") (tree.number (tree.unsigned (1000 * i)))
    (tree.member (codes "v") (tree.object (tree.member (codes "N") (tree.number (tree.unsigned (i % 100)))
    (tree.member (codes "PAGE") (tree.string (112 ∷ (48 + i % 10) ∷ [])) tree.no_members))) tree.no_members)))

line-data : (i : ℕ) → i < 100000 → of_json (line_json i) ≡ Some (line_data i)
line-data i few = rw (number_of-decimal (1000 * i) (time-small i few), number_of-decimal (i % 1000) (key-small i), number_of-decimal (i % 100) (number-small i)) refl

line-read : (i : ℕ) → i < 100000 → read (line_text i) ≡ Some (line_data i)
line-read i few =
    ap (λ (ts : List Token). option_and_then of_json (option_and_then (λ p. json.if_last p.0 p.1) (json.value 127 ts)))
    (ap tokens (sym (line-printed i)) ∙ tokens-print (json_tokens (line_json i)) (line-numbers i few) ∙ sym (append-nil (json_tokens (line_json i))))
    ∙ ap (λ (o : Option (json.Json × List Token)). option_and_then of_json (option_and_then (λ p. json.if_last p.0 p.1) o)) (value-json_tokens (line_json i) 127 [] (omega arith))
    ∙ line-data i few

digits-seen : (ds : List ℕ) → AllDigits 10 ds → AreSeen ds
digits-seen [] all = refl
digits-seen (d ∷ ds) all = and_from (is_seen d) (list_all is_seen ds) (by (digit_at (d ∷ ds) 0 all (omega arith))) (digits-seen ds all.1)
  where
    by : IsInRange 48 57 d → is_seen d ≡ true
    by in_range = and_from (nat_lt 31 d) (nat_lt d 128) (lt-ltb 31 d (omega (arith, in_range.0))) (lt-ltb d 128 (omega (arith, in_range.1)))

pub decimal-seen : (n : ℕ) → n < 2 ^ 64 → AreSeen (decimal n)
decimal-seen n small = digits-seen (decimal n) (decimal_is_IsNumeral n small).0.1

seen-more : (xs : List ℕ) (n : ℕ) (ys : List ℕ) → AreSeen xs → n < 2 ^ 64 → AreSeen ys → AreSeen (xs ++ (decimal n ++ ys))
seen-more xs n ys first small last = seen-both xs (decimal n ++ ys) first (seen-both (decimal n) ys (decimal-seen n small) last)

line-seen : (i : ℕ) → i < 100000 → AreSeen (line_text i)
line-seen i few =
    let low : i % 10 < 10 = page-low i in
    seen-more (codes "{\"t\":") (1000 * i) (key_part i) refl (time-small i few)
    (seen-more (codes ",\"k\":") (i % 1000) (page_part i) refl (key-small i)
    (seen-more (codes ",\"v\":{\"PAGE\":\"p") (i % 10) (number_part i) refl (omega (arith, low))
    (seen-more (codes "\",\"N\":") (i % 100) (codes "}}") refl (number-small i) refl)))

seen-ascii : (xs : List ℕ) → AreSeen xs → are_ascii xs ≡ true
seen-ascii [] seen = refl
seen-ascii (x ∷ xs) seen =
    let parts = and_parts (is_seen x) (list_all is_seen xs) seen in
    and_from (nat_lt x 128) (are_ascii xs) (and_parts (nat_lt 31 x) (nat_lt x 128) parts.0).1 (seen-ascii xs parts.1)

pub seen-utf8 : (xs : List ℕ) → AreSeen xs → IsUtf8 xs
seen-utf8 xs seen = IsUtf8-are_ascii xs (seen-ascii xs seen)

line-is : (i : ℕ) → i < 100000 → is_topic_line (line_text i) ≡ true
line-is i few =
    let whole : nat_lt (1000 * i) (2 ^ 63) ≡ true = lt-ltb (1000 * i) (2 ^ 63) (omega (arith, few)) in
    let key : nat_lt (i % 1000) (2 ^ 63) ≡ true = lt-ltb (i % 1000) (2 ^ 63) (let low : i % 1000 < 10000 = rest-small i 1000 (omega arith) (omega arith) in omega (arith, low)) in
    let time : nat_le (1000 * i) (2 ^ 53) ≡ true = le-leb (1000 * i) (2 ^ 53) (omega (arith, few)) in
    ap (λ (o : Option Data). is_some (option_and_then topic_time o)) (data_of-read (line_text i) (seen-utf8 (line_text i) (line-seen i few)) ∙ line-read i few)
    ∙ rw (whole, key, time) refl

-- ---- the lines of the file

-- a piece up to a byte that cuts, where none before it does
pub split-seen : (p : ℕ → Bool) (xs : List ℕ) (y : ℕ) (ys : List ℕ) → ((x : ℕ) → is_seen x ≡ true → p x ≡ false) → AreSeen xs → p y ≡ true → slice_split p (xs ++ y ∷ ys) ≡ xs ∷ slice_split p ys
split-seen p [] y ys none seen cuts = slice_split-cons_yes p y ys cuts
split-seen p (x ∷ xs) y ys none seen cuts =
    let parts = and_parts (is_seen x) (list_all is_seen xs) seen in
    slice_split-cons_no p x (xs ++ y ∷ ys) (none x parts.0) ∙ ap (onto_first x) (split-seen p xs y ys none parts.1 cuts)

pub no-line-feed : (x : ℕ) → is_seen x ≡ true → is_line_feed x ≡ false
no-line-feed x seen = ne_eqb x 10 (λ same. let low : 31 < x = ltb-true 31 x (and_parts (nat_lt 31 x) (nat_lt x 128) seen).0 in omega (arith, low, same))

-- the first n lines from record a on
abbrev texts_from : ℕ → ℕ → List (List ℕ)
texts_from a n = map line_text (range_with_len a n)

file-pieces : (a n : ℕ) → a + n ≤ 100000 → slice_split is_line_feed (flat_map demo_line (range_with_len a n)) ≡ texts_from a n ++ [] ∷ []
file-pieces a zero few = refl
file-pieces a (suc n) few =
    ap (slice_split is_line_feed) (line-text a (flat_map demo_line (range_with_len (a + 1) n)))
    ∙ split-seen is_line_feed (line_text a) 10 (flat_map demo_line (range_with_len (a + 1) n)) no-line-feed (line-seen a (omega (arith, few))) refl
    ∙ ap (λ (pieces : List (List ℕ)). line_text a ∷ pieces) (file-pieces (a + 1) n (omega (arith, few)))

no-end : (lines : List (List ℕ)) → without_empty_end (lines ++ [] ∷ []) ≡ lines
no-end [] = refl
no-end (line ∷ []) = refl
no-end (line ∷ next ∷ lines) = ap (λ (pieces : List (List ℕ)). line ∷ pieces) (no-end (next ∷ lines))

file-lines : (n : ℕ) → n ≤ 100000 → lines_of (demo_topic_file n) ≡ texts_from 0 n
unfolding demo_topic_file
file-lines n few = ap without_empty_end (file-pieces 0 n (omega (arith, few))) ∙ no-end (texts_from 0 n)

-- ---- the size of the file

line-short : (i : ℕ) → i < 100000 → length (demo_line i) ≤ 100
unfolding demo_line
line-short i few =
    let t : length (decimal (1000 * i)) ≤ 9 = length-decimal-le 9 (1000 * i) (omega arith) (omega (arith, few)) (omega (arith, few)) in
    let k : length (decimal (i % 1000)) ≤ 4 = length-decimal-le 4 (i % 1000) (omega arith) (rest-small i 1000 (omega arith) (omega arith)) (key-small i) in
    let p : length (decimal (i % 10)) ≤ 4 = length-decimal-le 4 (i % 10) (omega arith) (rest-small i 10 (omega arith) (omega arith)) (let low : i % 10 < 10 = page-low i in omega (arith, low)) in
    let n : length (decimal (i % 100)) ≤ 4 = length-decimal-le 4 (i % 100) (omega arith) (rest-small i 100 (omega arith) (omega arith)) (number-small i) in
    simp length-append (omega (arith, t, k, p, n))

file-short : (a n : ℕ) → a + n ≤ 100000 → length (flat_map demo_line (range_with_len a n)) ≤ 100 * n
file-short a zero few = omega arith
file-short a (suc n) few =
    let one : length (demo_line a) ≤ 100 = line-short a (omega (arith, few)) in
    let rest : length (flat_map demo_line (range_with_len (a + 1) n)) ≤ 100 * n = file-short (a + 1) n (omega (arith, few)) in
    let both : length (demo_line a ++ flat_map demo_line (range_with_len (a + 1) n)) ≡ length (demo_line a) + length (flat_map demo_line (range_with_len (a + 1) n)) =
    length-append (demo_line a) (flat_map demo_line (range_with_len (a + 1) n)) in
    omega (arith, one, rest, both)

pub demo-short : (n : ℕ) → n ≤ 100000 → length (demo_topic_file n) ≤ 10000000
unfolding demo_topic_file
demo-short n few = let short : length (flat_map demo_line (range_with_len 0 n)) ≤ 100 * n = file-short 0 n (omega (arith, few)) in omega (arith, short, few)

-- ---- no fault

some-records : (lines : List (List ℕ)) → length (record_lines lines) ≤ length lines
some-records lines =
    let same : length (record_lines lines) ≡ count_by (λ line. not (is_blank line)) lines = length-filter (λ line. not (is_blank line)) lines in
    let few : count_by (λ line. not (is_blank line)) lines ≤ length lines = count_by-le-length (λ line. not (is_blank line)) lines in
    omega (arith, same, few)

within-room : (file : List ℕ) (lines : List (List ℕ)) → length file ≤ 67108864 → length lines ≤ 200000 → passes whole_room file lines ≡ false
unfolding whole_room
within-room file lines short few =
    let records : length (record_lines lines) ≤ length lines = some-records lines in
    let taken : bytes_taken file lines ≤ length file = min-le_right (bytes_of lines) (length file) in
    rw (le-ltb 200000 (length (record_lines lines)) (omega (arith, records, few)), le-ltb 67108864 (bytes_taken file lines) (omega (arith, taken, short))) refl

none-wrong : (file : List ℕ) (before : List (List ℕ)) (a n : ℕ) → length file ≤ 67108864 → a + n ≤ 100000 → length before ≤ a → first_fault_behind whole_room file before (texts_from a n) ≡ None
none-wrong file before a zero short few so_far = refl
none-wrong file before a (suc n) short few so_far =
    let longer : length (before ++ line_text a ∷ []) ≡ length before + 1 = length-append before (line_text a ∷ []) in
    rw (within-room file (before ++ line_text a ∷ []) short (omega (arith, longer, few, so_far)), line-is a (omega (arith, few)))
    (none-wrong file (before ++ line_text a ∷ []) (a + 1) n short (omega (arith, few)) (omega (arith, longer, so_far)))

-- the topic file of a demo is good
pub demo-good : (n : ℕ) → n ≤ 100000 → first_fault whole_room (demo_topic_file n) ≡ None
demo-good n few =
    let short : length (demo_topic_file n) ≤ 10000000 = demo-short n few in
    ap (first_fault_behind whole_room (demo_topic_file n) []) (file-lines n few) ∙ none-wrong (demo_topic_file n) [] 0 n (omega (arith, short)) (omega (arith, few)) (omega arith)
