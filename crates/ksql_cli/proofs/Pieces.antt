-- What pieces that are written one after another come to.
use Rattle.std.proofs.Common.{◌≡◌, ℕ, ◌+◌, ◌-◌, ◌≤◌, List, [], ◌∷◌, ◌++◌, drop, get_or, length, take, Option, None, Some, refl, ap, ap₂, ◌∙◌, sym, subst, append_assoc, arith, length-append}
use Rattle.std.specs.Prelude.{Result, Ok, Err, OnErr, OnOk, codes, decimal}
use Rattle.std.specs.List.{flat_map}
use denote.Bor.{Bor}
use Rattle.std.proofs.Math.Seq.{take-append-add}
use Rattle.std.proofs.lemmas.Grind.{common_steps}
use Rattle.ksql_types.specs.declared.code.Code.{Code}
use Rattle.ksql_outside.specs.Outside.{followed_by, WrotePrefix}
use Rattle.topic_files.specs.declared.topic.LineWhy.{LineWhy}
use Rattle.schedule_text.specs.declared.fault.StepWhy.{StepWhy}
use Rattle.ksql_cli.specs.Fault.{code_text, why_text, step_why_text, script_line, schedule_line, topic_line, read_line, usage_line, memory_line}

pub followed-on : (known : Option (List ℕ)) (first rest : List ℕ) → followed_by (followed_by known first) rest ≡ followed_by known (first ++ rest)
followed-on None first rest = refl
followed-on (Some w) first rest = ap (λ (bytes : List ℕ). Some bytes) (append_assoc w first rest)

pub prefix-first : (old new : Option (List ℕ)) (first rest : List ℕ) → WrotePrefix old new first → WrotePrefix old new (first ++ rest)
prefix-first old new first rest wrote =
    let front : take wrote.0 first ≡ take wrote.0 (first ++ rest) = grind (arith, common_steps, wrote.1) in
    (wrote.0, omega (arith, wrote.1, length-append first rest), wrote.2 ∙ ap (followed_by old) front)

pub prefix-rest : (old mid new : Option (List ℕ)) (first rest : List ℕ) → mid ≡ followed_by old first → WrotePrefix mid new rest → WrotePrefix old new (first ++ rest)
prefix-rest old mid new first rest before wrote = (
  length first + wrote.0,
  omega (arith, wrote.1, length-append first rest),
  wrote.2 ∙ ap (λ (known : Option (List ℕ)). followed_by known (take wrote.0 rest)) before
      ∙ followed-on old first (take wrote.0 rest) ∙ ap (followed_by old) (sym (take-append-add first rest wrote.0)),
)

-- pieces whose last one failed
pub prefix-last : {A E : Type 0} (r : Result A E) (old mid new : Option (List ℕ)) (first rest : List ℕ) → mid ≡ followed_by old first →
    OnErr r (WrotePrefix mid new rest) → OnErr r (WrotePrefix old new (first ++ rest))
prefix-last (Ok x) old mid new first rest before wrote = tt
prefix-last (Err e) old mid new first rest before wrote = prefix-rest old mid new first rest before wrote

-- pieces that were all written
pub whole-last : {A E : Type 0} (r : Result A E) (old mid new : Option (List ℕ)) (first rest : List ℕ) → mid ≡ followed_by old first →
    OnOk r (new ≡ followed_by mid rest) → OnOk r (new ≡ followed_by old (first ++ rest))
whole-last (Err e) old mid new first rest before wrote = tt
whole-last (Ok x) old mid new first rest before wrote =
    wrote ∙ ap (λ (known : Option (List ℕ)). followed_by known rest) before ∙ followed-on old first rest

-- the first of some pieces, and the others
pub first-and-others : (ps : List (Bor (List ℕ))) (none : Bor (List ℕ)) → 1 ≤ length ps
    → (get_or ps 0 none).now ++ flat_map (λ p. p.now) (take (length ps - 1) (drop 1 ps)) ≡ flat_map (λ p. p.now) ps
first-and-others [] none h = let no : ⊥ = omega (arith, h) in absurd no
first-and-others (p ∷ ps) none h =
    let all : take (length (p ∷ ps) - 1) ps ≡ ps = grind (arith, common_steps) in
    ap (λ (qs : List (Bor (List ℕ))). p.now ++ flat_map (λ q. q.now) qs) all

pub pieces-last : {A E : Type 0} (r : Result A E) (old mid new : Option (List ℕ)) (ps : List (Bor (List ℕ))) (none : Bor (List ℕ)) → 1 ≤ length ps
    → mid ≡ followed_by old (get_or ps 0 none).now
    → OnErr r (WrotePrefix mid new (flat_map (λ p. p.now) (take (length ps - 1) (drop 1 ps)))) → OnErr r (WrotePrefix old new (flat_map (λ p. p.now) ps))
pieces-last r old mid new ps none filled before wrote =
    subst (λ (bytes : List ℕ). OnErr r (WrotePrefix old new bytes)) (first-and-others ps none filled)
    (prefix-last r old mid new (get_or ps 0 none).now (flat_map (λ p. p.now) (take (length ps - 1) (drop 1 ps))) before wrote)

-- the same line in another form
pub whole-as : {A E : Type 0} (r : Result A E) (old new : Option (List ℕ)) (piece line : List ℕ) → piece ≡ line →
    OnOk r (new ≡ followed_by old piece) → OnOk r (new ≡ followed_by old line)
whole-as r old new piece line same wrote = subst (λ (bytes : List ℕ). OnOk r (new ≡ followed_by old bytes)) same wrote

pub prefix-as : {A E : Type 0} (r : Result A E) (old new : Option (List ℕ)) (piece line : List ℕ) → piece ≡ line →
    OnErr r (WrotePrefix old new piece) → OnErr r (WrotePrefix old new line)
prefix-as r old new piece line same wrote = subst (λ (bytes : List ℕ). OnErr r (WrotePrefix old new bytes)) same wrote

pub on-err : {A E : Type 0} (r : Result A E) (P : Type 0) → P → OnErr r P
on-err (Ok x) P p = tt
on-err (Err e) P p = p

-- the lines by their pieces
pub script_pieces : (number text : List ℕ) (statement : ℕ) (code : Code) → number ≡ decimal statement → text ≡ code_text code →
    codes "ksql: script statement " ++ (number ++ (codes ": " ++ (text ++ codes "\n"))) ≡ script_line statement code
unfolding script_line
script_pieces number text statement code is_number is_text =
    ap₂ (λ (a b : List ℕ). codes "ksql: script statement " ++ (a ++ (codes ": " ++ (b ++ codes "\n")))) is_number is_text

pub schedule_pieces : (number text : List ℕ) (line : ℕ) (why : StepWhy) → number ≡ decimal line → text ≡ step_why_text why →
    codes "ksql: schedule line " ++ (number ++ (codes ": " ++ (text ++ codes "\n"))) ≡ schedule_line line why
unfolding schedule_line
schedule_pieces number text line why is_number is_text =
    ap₂ (λ (a b : List ℕ). codes "ksql: schedule line " ++ (a ++ (codes ": " ++ (b ++ codes "\n")))) is_number is_text

pub topic_pieces : (name topic number text : List ℕ) (line : ℕ) (why : LineWhy) → name ≡ topic → number ≡ decimal line → text ≡ why_text why →
    (codes "ksql: topic " ++ (name ++ codes " line ")) ++ (number ++ (codes ": " ++ (text ++ codes "\n"))) ≡ topic_line topic line why
unfolding topic_line
topic_pieces name topic number text line why is_name is_number is_text =
    ap (λ (bytes : List ℕ). codes "ksql: topic " ++ bytes) (append_assoc name (codes " line ") (number ++ (codes ": " ++ (text ++ codes "\n"))))
    ∙ ap (λ (bytes : List ℕ). codes "ksql: topic " ++ (bytes ++ (codes " line " ++ (number ++ (codes ": " ++ (text ++ codes "\n")))))) is_name
    ∙ ap₂ (λ (a b : List ℕ). codes "ksql: topic " ++ (topic ++ (codes " line " ++ (a ++ (codes ": " ++ (b ++ codes "\n")))))) is_number is_text

pub read_pieces : (text name : List ℕ) → text ≡ name → codes "ksql: cannot read " ++ (text ++ codes "\n") ≡ read_line name
unfolding read_line
read_pieces text name same = ap (λ (bytes : List ℕ). codes "ksql: cannot read " ++ (bytes ++ codes "\n")) same

pub usage_piece : codes "ksql: bad command line\n" ≡ usage_line
unfolding usage_line
usage_piece = refl

pub memory_piece : codes "ksql: out of memory\n" ≡ memory_line
unfolding memory_line
memory_piece = refl
