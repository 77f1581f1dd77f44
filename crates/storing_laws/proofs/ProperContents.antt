-- The changes in the topics of a topology have short UTF-8 values, and their windows start before they end.
use Rattle.std.proofs.Common.{ℕ, zero, suc, List, [], ◌∷◌, ◌++◌}
use Rattle.std.specs.Prelude.{◌==◌, All, filter, Option, None, Some, IfSome, option_map, slice_get, replicate}
use Rattle.std.specs.List.{AllByRecursion}
use Rattle.std.proofs.lemmas.List.Elements.{All-from_recursion, recursion_from_All}
use Rattle.ksql_types.specs.declared.relation.Kind.{Kind}
use Rattle.ksql_types.specs.declared.relation.Kind.TheVariants as kind
use Rattle.ksql_types.specs.declared.relation.Relation.{Relation}
use Rattle.ksql_types.specs.declared.value.Value.{Value}
use Rattle.ksql_types.specs.declared.value.Value.TheVariants.{Null}
use Rattle.ksql_place.specs.Said.{is_of_topic, said, said_by, saying}
use Rattle.ksql_place.specs.declared.change.Body.{Body}
use Rattle.ksql_place.specs.declared.change.Body.TheVariants.{Said, Turned}
use Rattle.ksql_place.specs.declared.change.Change.{Change}
use Rattle.ksql_place.specs.declared.change.Decoded.{Decoded}
use Rattle.ksql_place.specs.declared.change.Decoded.TheVariants.{Good, Tombstone, Skipped}
use Rattle.ksql_place.specs.declared.change.SourceRecord.{SourceRecord}
use Rattle.ksql_program.specs.Sound.{IsSound}
use Rattle.ksql_program.specs.declared.program.Item.{Item}
use Rattle.ksql_program.specs.declared.program.Item.TheVariants.{Declared, Started}
use Rattle.ksql_nodes.specs.Entries.{Row}
use Rattle.ksql_nodes.proofs.Lists.{All-append}
use Rattle.query_meaning.specs.Queries.{key_cells, with_key_cells}
use Rattle.meaning_laws.proofs.Lists.{All-both, All-filter, All-weaker}
use Rattle.meaning_laws.proofs.Saying.{placed_at}
use Rattle.meaning_laws.proofs.Sizes.{All-flat_map}
use Rattle.record_codec.specs.Spelling.{IsShort}
use Rattle.topology.specs.Contents.{contents, source_changes, source_contents, with_cells}
use Rattle.topology.specs.Topologies.{subs, topology_of}
use Rattle.short_laws.specs.Short.{HoldTexts, HoldsInDecoded, HoldsInRows, IsProper, IsProperChange, IsShortRecord, IsText, IsTextRecord, KeepsProper}
use Rattle.storing_laws.specs.Stored.{IsProperThroughout}
use Rattle.storing_laws.proofs.Along.{contents-hold}
use Rattle.short_laws.proofs.ShortChanges.{HasProperRow, HasProperRows, IsProperRow, IsTame, node-tame}
use Rattle.storing_laws.proofs.StageTexts.{subs-keep}

-- ---- records

pub proper-row : (row : Row) → All IsShort row → All IsText row → IsProperRow row
proper-row row short texts = All-both IsShort IsText row (recursion_from_All IsShort row short) (recursion_from_All IsText row texts)

said-proper : (over : Kind) (key : List Value) (value : Decoded) → HoldsInDecoded IsShort value → HoldsInDecoded IsText value → IfSome (said_by over key value) HasProperRows
said-proper kind.Stream key (Good row) short texts = proper-row row short texts
said-proper kind.Stream key Tombstone short texts = tt
said-proper kind.Stream key Skipped short texts = tt
said-proper kind.Table [] value short texts = tt
said-proper kind.Table (k ∷ ks) (Good row) short texts = (tt, proper-row row short texts)
said-proper kind.Table (k ∷ ks) Tombstone short texts = (tt, tt)
said-proper kind.Table (k ∷ ks) Skipped short texts = tt
said-proper kind.Windowed key value short texts = tt

abbrev pub IsProperRecord : SourceRecord → Type 0
IsProperRecord source = IsShortRecord source × IsTextRecord source

placed-tame : (source : SourceRecord) → IsProperRecord source → (o : Option Body) → IfSome o HasProperRows → AllByRecursion IsTame (placed_at source o)
placed-tame source proper None h = tt
placed-tame source proper (Some body) h = ((proper-row source.key proper.0.0 proper.1.0, (h, tt)), tt)

said-tame : (r : Relation) (order : List SourceRecord) → AllByRecursion IsProperRecord order → AllByRecursion IsTame (said r order)
unfolding said
said-tame r order h =
    All-flat_map IsTame (saying r.kind) IsProperRecord
    (λ source proper. placed-tame source proper (said_by r.kind source.key source.value) (said-proper r.kind source.key source.value proper.0.1 proper.1.1))
    (filter (is_of_topic r) order) (All-filter IsProperRecord (is_of_topic r) order h)

pub source-tame : (items : List Item) (order : List SourceRecord) → AllByRecursion IsProperRecord order → (topic part : ℕ) → AllByRecursion IsTame (source_contents items order topic part)
source-tame items order h topic part = All-filter IsTame (λ c. c.place.stamp.part == part) (source_changes order (slice_get items topic)) (by (slice_get items topic))
  where
    by : (o : Option Item) → AllByRecursion IsTame (source_changes order o)
    by None = tt
    by (Some (Declared r)) = said-tame r order h
    by (Some (Started q)) = tt

-- ---- whole rows

nulls-proper : (n : ℕ) → IsProperRow (replicate n Null)
nulls-proper zero = tt
nulls-proper (suc n) = ((tt, tt), nulls-proper n)

cells-proper : (columns : ℕ) (key : List Value) → IsProperRow key → IsProperRow (key_cells columns key)
cells-proper columns [] h = nulls-proper columns
cells-proper columns (k ∷ ks) h = h

whole-row : (columns : ℕ) (key : List Value) → IsProperRow key → (o : Option Row) → HasProperRow o → HasProperRow (option_map (λ row. key_cells columns key ++ row) o)
whole-row columns key k None h = tt
whole-row columns key k (Some row) h = All-append IsProper (key_cells columns key) row (cells-proper columns key k) h

pub whole-tame : (columns : ℕ) (c : Change) → IsTame c → IsTame (with_cells columns c)
whole-tame zero c h = h
whole-tame (suc columns) c h = (h.0, (by c.body h.1.0, h.1.1))
  where
    by : (b : Body) → HasProperRows b → HasProperRows (with_key_cells (suc columns) (record c { body = b })).body
    by (Said row) r = All-append IsProper (key_cells (suc columns) c.key) row (cells-proper (suc columns) c.key h.0) r
    by (Turned old new) r = (whole-row (suc columns) c.key h.0 old r.0, whole-row (suc columns) c.key h.0 new r.1)

-- ---- all topics

tame-some : (o : Option Row) → HasProperRow o → IfSome o (All IsProper)
tame-some None h = tt
tame-some (Some row) h = All-from_recursion IsProper row h

pub tame-proper : (c : Change) → IsTame c → IsProperChange c
tame-proper c h = record { key = All-from_recursion IsProper c.key h.0; rows = by c.body h.1.0; span = h.1.1 }
  where
    by : (b : Body) → HasProperRows b → HoldsInRows IsProper b
    by (Said row) r = All-from_recursion IsProper row r
    by (Turned old new) r = (tame-some old r.0, tame-some new r.1)

pub contents-proper : (items : List Item) (order : List SourceRecord) → IsSound items → HoldTexts items → All IsShortRecord order → All IsTextRecord order →
    IsProperThroughout items (topology_of items) order
contents-proper items order sound texts short utf8 topic part =
    let has : List Change = contents items (topology_of items) order topic part in
    let records = All-both IsShortRecord IsTextRecord order (recursion_from_All IsShortRecord order short) (recursion_from_All IsTextRecord order utf8) in
    All-from_recursion IsProperChange has
    (All-weaker IsTame IsProperChange tame-proper has
    (contents-hold (λ m c. IsTame c) (λ m k grows c h. h) KeepsProper (λ m x keeps. node-tame 1 x keeps) (λ m columns c h. whole-tame columns c h)
    (topology_of items).topics (source_contents items order) 0 (source-tame items order records) (subs items) (subs-keep items sound texts) topic part))
