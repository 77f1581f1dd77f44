-- For each member in turn, from the last: it is what is found if it has the name.
use Rattle.std.proofs.Common.{◌≡◌, ◌+◌, ◌-◌, take, sym, ap, ◌∙◌, arith}
use Rattle.serde_json.specs.Find.{get_member}
use Rattle.topic_files.specs.Tree.{members_view}
use Rattle.topic_files.proofs.TreeLemmas.{get_member-here, get_member-elsewhere}
use Rattle.topic_files.proofs.tree.member_of.Goals as goal

pub returns-then-is_named : goal.returns-then-is_named
returns-then-is_named c =
    let name = c.args.name.now in
    let members = c.args.members.now in
    let i = c.members.left - 1 in
    let next : c.members.left ≡ i + 1 = omega (arith, c.members-test.true) in
    sym (c.members.invariant.same ∙ ap (λ n. get_member name (members_view (take n members))) next
    ∙ get_member-here name members i c.index-members-left.result (omega (arith, c.members-test.true, c.members.invariant.inside)) c.index-members-left.is (sym c.is_named.ensures ∙ c.if-is_named.true))

pub members-preserved : goal.members-preserved
members-preserved c =
    let name = c.args.name.now in
    let members = c.args.members.now in
    let i = c.members.left - 1 in
    let next : c.members.left ≡ i + 1 = omega (arith, c.members-test.true) in
    record {
      inside = omega (arith, c.members.invariant.inside);
      same = c.members.invariant.same ∙ ap (λ n. get_member name (members_view (take n members))) next
          ∙ get_member-elsewhere name members i c.index-members-left.result (omega (arith, c.members-test.true, c.members.invariant.inside)) c.index-members-left.is (sym c.is_named.ensures ∙ c.if-is_named.false);
    }
