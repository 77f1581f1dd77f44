-- Sources as they are built, and as a feed takes records from them.
use Rattle.std.proofs.Common.{◌≡◌, ◌∙◌, ap, ap₂, refl, sym, subst, ℕ, suc, ◌+◌, ◌<◌, ◌≤◌, ◌^◌, ◌-◌, List, [], ◌∷◌, ◌++◌, length, map, take, drop, get_or, min, append_assoc, arith}
use Rattle.std.specs.Prelude.{flat_map, All}
use Rattle.std.specs.List.{AllByRecursion, AllZip}
use Rattle.std.proofs.lemmas.List.{append-nil, length-append, length-take, length-drop, take_min, drop_min, drop_more}
use Rattle.std.proofs.lemmas.List.Elements.{recursion_from_All}
use Rattle.ksql_types.specs.declared.relation.Relation.{Relation}
use Rattle.ksql_place.specs.declared.change.SourceRecord.{SourceRecord}
use Rattle.ksql_program.specs.declared.program.Item.{Item}
use Rattle.ksql_program.specs.declared.program.Item.TheVariants.{Declared}
use Rattle.topic_files.specs.declared.topic.TopicLines.{TopicLines}
use Rattle.topic_feeds.specs.Reaching.{Reaches}
use Rattle.topic_feeds.proofs.Feeds.{fed-length}
use Rattle.feed_laws.specs.Feeds.{Source, after_feed, fed_of, sources_of}
use Rattle.cluster_core.specs.Cluster.{IsKept}
use Rattle.cluster_core.specs.Sourcing.{AreBuilt}
use Rattle.cluster_laws.specs.Feeding.{CanFeed}
use Rattle.cluster_core.specs.declared.sources.Source.{Source as Kept}

-- ---- lists side by side

pub zip-append : {A B : Type 0} (R : A → B → Type 0) (xs us : List A) (ys vs : List B) → AllZip R xs ys → AllZip R us vs → AllZip R (xs ++ us) (ys ++ vs)
zip-append R [] us [] vs first second = second
zip-append R [] us (y ∷ ys) vs first second = absurd first
zip-append R (x ∷ xs) us [] vs first second = absurd first
zip-append R (x ∷ xs) us (y ∷ ys) vs first second = (first.0, zip-append R xs us ys vs first.1 second)

-- ---- the sources of a program

pub built-declared : (items : List Item) (files : List TopicLines) (kept : List Kept) (r : Relation) (rest : List Item) (file : TopicLines) (left : List TopicLines) (k : Kept) →
    IsKept k (record { relation = r; before = []; left = file.feds }) → AreBuilt items files kept (Declared r ∷ rest) (file ∷ left) → AreBuilt items files (kept ++ k ∷ []) rest left
built-declared items files kept r rest file left k is built =
    let s : Source = record { relation = r; before = []; left = file.feds } in
    record {
      before = built.before ++ s ∷ [];
      each = zip-append IsKept kept (k ∷ []) built.before (s ∷ []) built.each (is, tt);
      whole = append_assoc built.before (s ∷ []) (sources_of rest left) ∙ built.whole;
      fits = built.fits.1;
    }

pub built-all : (items : List Item) (files : List TopicLines) (kept : List Kept) (left : List TopicLines) → AreBuilt items files kept [] left → AllZip IsKept kept (sources_of items files)
built-all items files kept left built = subst (AllZip IsKept kept) (sym (append-nil built.before) ∙ built.whole) built.each

-- the next item
pub built-at : (items : List Item) (files : List TopicLines) (kept : List Kept) (left : List TopicLines) (k : ℕ) (i : Item) → k < length items → i ≡ get_or items k i →
    AreBuilt items files kept (drop k items) left → AreBuilt items files kept (i ∷ drop (k + 1) items) left
built-at items files kept left k i low at built =
    subst (λ (is : List Item). AreBuilt items files kept is left) (drop_more items k i low ∙ ap (λ j. j ∷ drop (k + 1) items) (sym at)) built

-- ---- a feed

-- a source after a feed
pub kept-after : (feed : ℕ) (count : Source → ℕ) (old new : Kept) (s : Source) → IsKept old s → new.relation ≡ old.relation →
    Reaches s.relation (s.before ++ fed_of feed count s) new.reached → new.left.items ≡ drop (count s) s.left → IsKept new (after_feed feed count s)
kept-after feed count old new s kept relation reached left =
    let all : ℕ = length s.before + length s.left in
    let fed : length (fed_of feed count s) ≡ length (take (count s) s.left) = fed-length feed s.relation s.before (take (count s) s.left) in
    let longer : length (s.before ++ fed_of feed count s) ≡ length s.before + length (fed_of feed count s) = length-append s.before (fed_of feed count s) in
    let took : length (take (count s) s.left) ≡ min (count s) (length s.left) = length-take (count s) s.left in
    let rest : length (drop (count s) s.left) ≡ length s.left - count s = length-drop (count s) s.left in
    let most : all ≤ 2 ^ 63 = kept.few in
    record {
      relation = relation ∙ kept.relation;
      reached = reached;
      left = left;
      few = omega (arith, fed, longer, took, rest, most);
    }

-- the rest of a source, with as many records as there are
pub take-least : {A : Type 0} (n m : ℕ) (xs ys : List A) → xs ≡ ys → m ≡ min n (length ys) → take m xs ≡ take n ys
take-least n m xs ys same is = ap₂ take is same ∙ take_min n ys

pub drop-least : {A : Type 0} (n m : ℕ) (xs ys : List A) → xs ≡ ys → m ≡ min n (length ys) → drop m xs ≡ drop n ys
drop-least n m xs ys same is = ap₂ drop is same ∙ drop_min n ys

module _ (feed : ℕ) (count : Source → ℕ) (ss : List Source) where
  -- some sources were fed, and these are left
  pub record AreFed (left after : List Kept) (records : List SourceRecord) : Type 0 where
    pub rest : List Source
    pub kept : AllZip IsKept left rest
    pub ready : AllByRecursion (CanFeed feed) rest
    pub made : (more : List Kept) → AllZip IsKept more (map (after_feed feed count) rest) → AllZip IsKept (after ++ more) (map (after_feed feed count) ss)
    pub told : records ++ flat_map (fed_of feed count) rest ≡ flat_map (fed_of feed count) ss

  pub fed-none : (kept : List Kept) → AllZip IsKept kept ss → All (CanFeed feed) ss → AreFed kept [] []
  fed-none kept each ready = record { rest = ss; kept = each; ready = recursion_from_All (CanFeed feed) ss ready; made = λ more h. h; told = refl }

  pub fed-next : (k now : Kept) (left after : List Kept) (records next : List SourceRecord) →
      ((s : Source) → IsKept k s → CanFeed feed s → IsKept now (after_feed feed count s) × (next ≡ records ++ fed_of feed count s)) →
      AreFed (k ∷ left) after records → AreFed left (after ++ now ∷ []) next
  fed-next k now left after records next each fed = by fed.rest fed.kept fed.ready fed.made fed.told
    where
      by : (rest : List Source) → AllZip IsKept (k ∷ left) rest → AllByRecursion (CanFeed feed) rest →
          ((more : List Kept) → AllZip IsKept more (map (after_feed feed count) rest) → AllZip IsKept (after ++ more) (map (after_feed feed count) ss)) →
          records ++ flat_map (fed_of feed count) rest ≡ flat_map (fed_of feed count) ss → AreFed left (after ++ now ∷ []) next
      by [] kept ready made told = absurd kept
      by (s ∷ rest) kept ready made told =
          let one = each s kept.0 ready.0 in
          record {
            rest = rest;
            kept = kept.1;
            ready = ready.1;
            made = λ more h. subst (λ ks. AllZip IsKept ks (map (after_feed feed count) ss)) (sym (append_assoc after (now ∷ []) more)) (made (now ∷ more) (one.0, h));
            told = ap (λ rs. rs ++ flat_map (fed_of feed count) rest) one.1 ∙ append_assoc records (fed_of feed count s) (flat_map (fed_of feed count) rest) ∙ told;
          }

  -- the first source that is left
  pub fed-first : (k : Kept) (left after : List Kept) (records : List SourceRecord) → AreFed (k ∷ left) after records → (s : Source) × IsKept k s × CanFeed feed s
  fed-first k left after records fed = by fed.rest fed.kept fed.ready
    where
      by : (rest : List Source) → AllZip IsKept (k ∷ left) rest → AllByRecursion (CanFeed feed) rest → (s : Source) × IsKept k s × CanFeed feed s
      by [] kept ready = absurd kept
      by (s ∷ rest) kept ready = (s, kept.0, ready.0)

  pub fed-all : (left after : List Kept) (records : List SourceRecord) → left ≡ [] → AreFed left after records →
      AllZip IsKept after (map (after_feed feed count) ss) × (records ≡ flat_map (fed_of feed count) ss)
  fed-all [] after records none fed = by fed.rest fed.kept fed.made fed.told
    where
      by : (rest : List Source) → AllZip IsKept [] rest →
          ((more : List Kept) → AllZip IsKept more (map (after_feed feed count) rest) → AllZip IsKept (after ++ more) (map (after_feed feed count) ss)) →
          records ++ flat_map (fed_of feed count) rest ≡ flat_map (fed_of feed count) ss →
          AllZip IsKept after (map (after_feed feed count) ss) × (records ≡ flat_map (fed_of feed count) ss)
      by [] kept made told = (subst (λ ks. AllZip IsKept ks (map (after_feed feed count) ss)) (append-nil after) (made [] tt), sym (append-nil records) ∙ told)
      by (s ∷ rest) kept made told = absurd kept
  fed-all (k ∷ left) after records none fed = absurd (let long : suc (length left) ≡ 0 = ap length none in omega (arith, long))
