-- No statement of the demo's script breaks a rule.
use Rattle.std.proofs.Common.{◌≡◌, ◌∙◌, ap, refl, sym, subst, ℕ, Bool, true, false, List, [], ◌∷◌, codes, inl, inr}
use Rattle.std.proofs.lemmas.Bool.{false≢true}
use Rattle.std.specs.List.{list_any}
use Rattle.std.specs.Prelude.{◌⊎◌, IsTrue, Option, None, Some, is_none, is_some}
use Rattle.ksql_types.specs.declared.relation.Relation.{Relation}
use Rattle.ksql_types.specs.declared.value.SqlType.TheVariants as sql
use Rattle.ksql_expr.specs.declared.typed.AggFun.TheVariants.{Sum}
use Rattle.ksql_expr.specs.declared.typed.TypedNode.TheVariants as n
use Rattle.expression_trees.specs.declared.tree.Expr.{Expr, out-Expr}
use Rattle.expression_trees.specs.declared.tree.Expr.TheVariants as e
use Rattle.expression_trees.specs.declared.tree.Expr.TheVariants.{outs-Call, outs-Name}
use Rattle.expression_trees.specs.Same.{Test, same_expr, same_form, same_when}
use Rattle.expression_trees.proofs.Equality.{same}
use Rattle.expression_trees.proofs.Folds as folds
use Rattle.expression_trees.proofs.Passing.{passes-Call, passes-Name, passes-decided}
use Rattle.ksql_scopes.specs.declared.scope.Scope.{Scope}
use Rattle.ksql_scopes.specs.Functions.{aggregate_of, function_of}
use Rattle.ksql_scopes.specs.Resolved.{resolved}
use Rattle.ksql_scopes.specs.Scope.{meanings}
use Rattle.ksql_scopes.specs.Uses.{calls}
use Rattle.ksql_scopes.proofs.Equations.{calls-Call, calls-Name, names-Call, names-Name}
use Rattle.ksql_scopes.proofs.Resolving.{resolved-Call, resolved-Name}
use Rattle.aggregate_rules.specs.Grouping.{has_bare_column, has_nested_aggregate, holds_inner, is_bare}
use Rattle.ksql_clauses.specs.declared.items.Named.{Named}
use Rattle.ksql_clauses.specs.declared.sources.Known.{Known}
use Rattle.ksql_clauses.specs.Items.{named_from, result_columns}
use Rattle.ksql_clauses.specs.Keys.{first_of, key_places}
use Rattle.ksql_clauses.proofs.Naming.{plain-Name}
use Rattle.ksql_typing.specs.Standing.{HasSomeType, HasType, HasValue, Stands}
use Rattle.ksql_typing.specs.Standing as stands
use Rattle.ksql_rules.specs.Breaks.{Each, IsQueryTyped}
use Rattle.ksql_rules.specs.Lowest.{IsAccepted}
use Rattle.ksql_analyse.specs.Judgement.{declared_relation}
use Rattle.schedule_laws.proofs.DemoTrees.{count_all, hits, hits_columns, hits_properties, minutes, minutes_select, name, pages, pages_select, sum_of}

-- a rule of tests that fail isn't broken
none-passes : (b c : Bool) → b ≡ false → c ≡ false → IsTrue b ⊎ IsTrue c → ⊥
none-passes b c none nothing (inl is) = false≢true (sym none ∙ is)
none-passes b c none nothing (inr is) = false≢true (sym nothing ∙ is)

nothing-breaks : (b : Bool) → b ≡ false → IsTrue b ⊎ ⊥ → ⊥
nothing-breaks b none (inl is) = false≢true (sym none ∙ is)
nothing-breaks b none (inr is) = is

nothing-breaks-either : (b : Bool) → b ≡ false → IsTrue false ⊎ IsTrue b → ⊥
nothing-breaks-either b none = none-passes false b refl none

-- a typed query isn't mistyped
never-mistyped : {A : Type 0} → A → IsTrue false ⊎ (¬ A) → ⊥
never-mistyped typed (inl is) = false≢true is
never-mistyped typed (inr not) = not typed

-- ---- the stream

pub hits-accepted : IsAccepted [] hits
hits-accepted = (
  none-passes _ _ refl refl,
  (
    nothing-breaks _ refl,
    (
      none-passes _ _ refl refl,
      (
        nothing-breaks _ refl,
        (
          nothing-breaks _ refl,
          (
            none-passes _ _ refl refl,
            (
              nothing-breaks _ refl,
              (
                none-passes _ _ refl refl,
                (
                  none-passes _ _ refl refl,
                  (
                    nothing-breaks _ refl,
                    (
                      nothing-breaks _ refl,
                      (
                        nothing-breaks _ refl,
                        (
                          nothing-breaks _ refl,
                          (
                            none-passes _ _ refl refl,
                            (none-passes _ _ refl refl, tt),
                          ),
                        ),
                      ),
                    ),
                  ),
                ),
              ),
            ),
          ),
        ),
      ),
    ),
  ),
)

-- its relation
abbrev pub hits_relation : Relation
hits_relation = declared_relation 0 hits hits_columns hits_properties

-- what both queries read
abbrev source : List Known
source = record { alias = codes "HITS"; relation = hits_relation } ∷ []

-- ---- the expressions of the queries

-- the columns of the stream, with the bounds of windows or without
abbrev seen : Bool → Scope
seen windowed = record {
  columns = record { alias = Some (codes "HITS"); column = record { name = codes "ID"; ty = sql.Big } }
      ∷ record { alias = Some (codes "HITS"); column = record { name = codes "PAGE"; ty = sql.Text } }
      ∷ record { alias = Some (codes "HITS"); column = record { name = codes "N"; ty = sql.Int } } ∷ [];
  stream = true;
  windowed = windowed;
}

-- the names and calls of the queries
abbrev page : Expr
page = name (codes "PAGE")

abbrev number : Expr
number = name (codes "N")

abbrev sum : Expr
sum = sum_of (codes "N")

-- the same with resolved names
abbrev full : List ℕ → Expr
full word = e.Name (Some (codes "HITS")) word

abbrev full_page : Expr
full_page = full (codes "PAGE")

abbrev full_sum : Expr
full_sum = e.Call (codes "SUM") false (full (codes "N") ∷ [])

resolved-page : (w : Bool) → resolved (seen w) page ≡ full_page
resolved-page w = resolved-Name (seen w) None (codes "PAGE")

resolved-count : (w : Bool) → resolved (seen w) count_all ≡ count_all
resolved-count w = resolved-Call (seen w) (codes "COUNT") true []

resolved-sum : (w : Bool) → resolved (seen w) sum ≡ full_sum
resolved-sum w = resolved-Call (seen w) (codes "SUM") false (number ∷ []) ∙ ap (λ (a : Expr). e.Call (codes "SUM") false (a ∷ [])) (resolved-Name (seen w) None (codes "N"))

-- an aggregate isn't a column
call-apart : (f : List ℕ) (star : Bool) (args : List Expr) (q : Option (List ℕ)) (word : List ℕ) → same_expr (e.Name q word) (e.Call f star args) ≡ false
unfolding same_expr
call-apart f star args q word =
    ap (λ (t : Test Expr). t (e.Call f star args)) (folds.fold-Name (Test Expr) (Test _) (λ form a. same_form form (out-Expr a)) same_when q word) ∙ rw (outs-Call f star args) refl

-- ---- the columns of the results

-- a column of a result
abbrev named : List ℕ → Expr → Named
named word a = record { name = word; expr = a }

-- the columns that both queries have
abbrev both : List Named → List Named
both more = named (codes "PAGE") full_page ∷ named (codes "C") count_all ∷ more

pages-columns : result_columns pages_select source ≡ both (named (codes "TOTAL") full_sum ∷ [])
unfolding named_from
pages-columns = rw (plain-Name source None (codes "PAGE"), resolved-page false, resolved-count false, resolved-sum false) refl

minutes-columns : result_columns minutes_select source ≡ both []
unfolding named_from
minutes-columns = rw (plain-Name source None (codes "PAGE"), resolved-page true, resolved-count true) refl

-- the key is the first column
pages-first : first_of (full_page ∷ []) (both (named (codes "TOTAL") full_sum ∷ [])) ≡ Some 0
pages-first = rw (same full_page full_page refl) refl

minutes-first : first_of (full_page ∷ []) (both []) ≡ Some 0
minutes-first = rw (same full_page full_page refl) refl

-- ---- aggregates

calls-sum : (word : List ℕ) → calls (sum_of word) ≡ codes "SUM" ∷ []
calls-sum word = calls-Call (codes "SUM") false (name word ∷ []) ∙ rw (calls-Name None word) refl

not-nested : (word : List ℕ) → has_nested_aggregate (name word) ≡ false
not-nested word = passes-Name holds_inner (name word) None word refl (rw (outs-Name None word) refl)

count-plain : has_nested_aggregate count_all ≡ false
unfolding aggregate_of
count-plain = passes-Call holds_inner count_all (codes "COUNT") true [] refl (rw (outs-Call (codes "COUNT") true []) refl)

sum-plain : has_nested_aggregate sum ≡ false
unfolding aggregate_of
sum-plain =
    passes-Call holds_inner sum (codes "SUM") false (number ∷ []) refl (rw (outs-Call (codes "SUM") false (number ∷ []), calls-Name None (codes "N")) refl)
    ∙ rw (not-nested (codes "N")) refl

-- a group expression and an aggregate have no bare column
page-grouped : has_bare_column (full_page ∷ []) full_page ≡ false
page-grouped = passes-decided (is_bare (full_page ∷ [])) full_page false (rw (same full_page full_page refl) refl)

aggregate-grouped : (f : List ℕ) (star : Bool) (args : List Expr) → is_some (aggregate_of f) ≡ true → has_bare_column (full_page ∷ []) (e.Call f star args) ≡ false
aggregate-grouped f star args is =
    passes-decided (is_bare (full_page ∷ [])) (e.Call f star args) false (rw (call-apart f star args (Some (codes "HITS")) (codes "PAGE"), outs-Call f star args, is) refl)

-- ---- types

page-means : (w : Bool) (q : Option (List ℕ)) → (q ≡ None) ⊎ (q ≡ Some (codes "HITS")) → meanings (seen w) q (codes "PAGE") ≡ (n.Column 1, sql.Text) ∷ []
unfolding meanings
page-means true q (inl is) = rw is refl
page-means true q (inr is) = rw is refl
page-means false q (inl is) = rw is refl
page-means false q (inr is) = rw is refl

page-type : (w : Bool) (q : Option (List ℕ)) → (q ≡ None) ⊎ (q ≡ Some (codes "HITS")) → HasType (seen w) (e.Name q (codes "PAGE")) (Some sql.Text)
page-type w q is = (_, stands.name (page-means w q is), refl)

number-means : (q : Option (List ℕ)) → (q ≡ None) ⊎ (q ≡ Some (codes "HITS")) → meanings (seen false) q (codes "N") ≡ (n.Column 2, sql.Int) ∷ []
unfolding meanings
number-means q (inl is) = rw is refl
number-means q (inr is) = rw is refl

count-type : (w : Bool) → HasType (seen w) count_all (Some sql.Big)
unfolding aggregate_of
count-type w = (_, stands.count_all refl, refl)

sum-type : (w : Bool) (q : Option (List ℕ)) → (q ≡ None) ⊎ (q ≡ Some (codes "HITS")) → HasType (seen w) (e.Call (codes "SUM") false (e.Name q (codes "N") ∷ [])) (Some sql.Int)
unfolding aggregate_of
sum-type w q is = (_, stands.aggregate {found = Sum} refl (stands.name (number-means q is)) refl, refl)

pages-typed : IsQueryTyped pages_select source
pages-typed = record {
  on = tt;
  front = ((Some sql.Text, page-type false None (inl refl)), tt);
  late = ((Some sql.Text, page-type false None (inl refl)), ((Some sql.Big, count-type false), ((Some sql.Int, sum-type false None (inl refl)), tt)));
  where_true = tt;
  having_true = tt;
  valued = subst (Each (λ c. HasValue (seen false) c.expr)) (sym pages-columns)
      ((sql.Text, page-type false (Some (codes "HITS")) (inr refl)), ((sql.Big, count-type false), ((sql.Int, sum-type false (Some (codes "HITS")) (inr refl)), tt)));
  on_agrees = tt;
}

minutes-typed : IsQueryTyped minutes_select source
minutes-typed = record {
  on = tt;
  front = ((Some sql.Text, page-type false None (inl refl)), tt);
  late = ((Some sql.Text, page-type true None (inl refl)), ((Some sql.Big, count-type true), tt));
  where_true = tt;
  having_true = tt;
  valued = subst (Each (λ c. HasValue (seen true) c.expr)) (sym minutes-columns) ((sql.Text, page-type true (Some (codes "HITS")) (inr refl)), ((sql.Big, count-type true), tt));
  on_agrees = tt;
}

-- ---- the queries

pages-key : key_places pages_select source ≡ Some 0 ∷ []
pages-key = rw (pages-columns, resolved-page false, pages-first) refl

minutes-key : key_places minutes_select source ≡ Some 0 ∷ []
minutes-key = rw (minutes-columns, resolved-page false, minutes-first) refl

pub pages-accepted : IsAccepted (hits_relation ∷ []) pages
unfolding meanings aggregate_of function_of
pages-accepted =
    let columns = pages-columns in
    let key = pages-key in (
      none-passes _ _ refl (rw columns refl),
      (
        nothing-breaks-either _ refl,
        (
          nothing-breaks-either _ refl,
          (
            nothing-breaks-either _ (rw (names-Name None (codes "PAGE"), names-Call (codes "COUNT") true [], names-Call (codes "SUM") false (number ∷ []), names-Name None (codes "N")) refl),
            (
              nothing-breaks-either _ (rw (names-Name None (codes "PAGE"), names-Call (codes "COUNT") true [], names-Call (codes "SUM") false (number ∷ []), names-Name None (codes "N")) refl),
              (
                nothing-breaks-either _ (rw (columns, resolved-page false, same full_page full_page refl) refl),
                (
                  never-mistyped pages-typed,
                  (
                    nothing-breaks-either _ refl,
                    (
                      nothing-breaks-either _ (ap (list_any is_none) key),
                      (
                        nothing-breaks-either _ refl,
                        (
                          nothing-breaks-either _ refl,
                          (
                            nothing-breaks-either _ (rw (
                              columns,
                              resolved-page false,
                              calls-Name None (codes "PAGE"),
                              calls-Call (codes "COUNT") true [],
                              page-grouped,
                              aggregate-grouped (codes "COUNT") true [] refl,
                              aggregate-grouped (codes "SUM") false (full (codes "N") ∷ []) refl,
                              not-nested (codes "PAGE"),
                              count-plain,
                              sum-plain,
                            ) refl),
                            (
                              nothing-breaks-either _ refl,
                              (
                                nothing-breaks-either _ (rw (calls-Name None (codes "PAGE"), calls-Call (codes "COUNT") true [], calls-sum (codes "N")) refl),
                                (nothing-breaks-either _ refl, tt),
                              ),
                            ),
                          ),
                        ),
                      ),
                    ),
                  ),
                ),
              ),
            ),
          ),
        ),
      ),
    )

-- with a relation of another name and another topic after the stream
pub minutes-accepted : (r : Relation) → r.name ≡ codes "PAGES" → r.topic ≡ codes "PAGES" → IsAccepted (hits_relation ∷ r ∷ []) minutes
unfolding meanings aggregate_of function_of
minutes-accepted r named topic =
    let columns = minutes-columns in
    let key = minutes-key in (
      none-passes _ _ refl (rw columns refl),
      (
        nothing-breaks-either _ refl,
        (
          nothing-breaks-either _ (rw (named, topic) refl),
          (
            nothing-breaks-either _ (rw (names-Name None (codes "PAGE"), names-Call (codes "COUNT") true []) refl),
            (
              nothing-breaks-either _ (rw (names-Name None (codes "PAGE"), names-Call (codes "COUNT") true []) refl),
              (
                nothing-breaks-either _ (rw (columns, resolved-page false, same full_page full_page refl) refl),
                (
                  never-mistyped minutes-typed,
                  (
                    nothing-breaks-either _ refl,
                    (
                      nothing-breaks-either _ (ap (list_any is_none) key),
                      (
                        nothing-breaks-either _ refl,
                        (
                          nothing-breaks-either _ refl,
                          (
                            nothing-breaks-either _ (rw (
                              columns,
                              resolved-page false,
                              calls-Name None (codes "PAGE"),
                              calls-Call (codes "COUNT") true [],
                              page-grouped,
                              aggregate-grouped (codes "COUNT") true [] refl,
                              not-nested (codes "PAGE"),
                              count-plain,
                            ) refl),
                            (
                              nothing-breaks-either _ refl,
                              (
                                nothing-breaks-either _ (rw (calls-Name None (codes "PAGE"), calls-Call (codes "COUNT") true []) refl),
                                (nothing-breaks-either _ refl, tt),
                              ),
                            ),
                          ),
                        ),
                      ),
                    ),
                  ),
                ),
              ),
            ),
          ),
        ),
      ),
    )
