use Rattle.std.proofs.Common.{◌≡◌, ◌∙◌, ap, refl, subst, sym, List, map}
use Rattle.topology.specs.Tasks.{tasks_of}
use Rattle.assignor.specs.Rule.{assignment}
use Rattle.assignor.specs.declared.assignment.Owned.{Owned}
use Rattle.cluster_core.specs.Cluster.{HasCome}
use Rattle.cluster_laws.specs.Moves.{are_at, owned_of}
use Rattle.cluster_laws.specs.Progress.{after_moves, has_left}
use Rattle.cluster_core.specs.declared.cluster.Cluster.{Cluster}
use Rattle.cluster_core.proofs.Coming.{same-come}
use Rattle.cluster_core.proofs.Happening.{happened-same}
use Rattle.cluster_core.proofs.Turning.{assign-moves, ok-more}
use Rattle.cluster_core.proofs.cluster.Cluster.assigned.Goals as goal

pub moved-requires : goal.moved-requires
moved-requires c =
    let old : Cluster = c.args.self in
    let come = c.requires.come in
    let live = c.args.live.items in
    let owners : List Owned = c.items-2.result.now in
    let before : c.in_ok-before.before ≡ map owned_of old.seats.items = c.in_ok-before.ensures ∙ ap (map owned_of) c.as_slice.ensures.value in
    let tasks : c.as_slice-3.result.now ≡ tasks_of old.topology.subs = c.as_slice-3.ensures.value ∙ c.in_ok-tasks.ensures.value in
    let is : owners ≡ assignment (map owned_of old.seats.items) live (tasks_of old.topology.subs) =
    c.items-2.ensures ∙ c.in_ok-owners.ensures.value ∙ (λ i. assignment (before i) (c.as_slice-2.ensures.value i) (tasks i)) in
    let same : c.as_slice-5.result.now ≡ are_at owners old.seats.items =
    c.as_slice-5.ensures.value ∙ c.in_ok-stays.ensures ∙ (λ i. are_at ((c.items.ensures ∙ sym c.items-2.ensures) i) (c.as_slice-4.ensures.value i)) in
    record {
      come = (
        come.0,
        record come.1 { live = live; journal = come.1.journal },
        come.2,
        has_left come.1.owners owners,
        come.3,
        same-come come.0 come.1 come.2 old _ live come.1.journal
            (record { topology = refl; chain = refl; broker = refl; these = refl; seats = refl; sources = refl; rounds = refl; notes = come.4.journal }) c.requires.rises come.4,
        assign-moves come.0 come.1 come.2 old come.4 live c.requires.rises come.5 owners c.as_slice-5.result.now is same,
      );
    }

pub returns-clause-come : goal.returns-clause-come
returns-clause-come c =
    let old : Cluster = c.args.self in
    let live = c.args.live.items in
    let owners : List Owned = c.items-2.result.now in
    let before : c.in_ok-before.before ≡ map owned_of old.seats.items = c.in_ok-before.ensures ∙ ap (map owned_of) c.as_slice.ensures.value in
    let tasks : c.as_slice-3.result.now ≡ tasks_of old.topology.subs = c.as_slice-3.ensures.value ∙ c.in_ok-tasks.ensures.value in
    let is : owners ≡ assignment (map owned_of old.seats.items) live (tasks_of old.topology.subs) =
    c.items-2.ensures ∙ c.in_ok-owners.ensures.value ∙ (λ i. assignment (before i) (c.as_slice-2.ensures.value i) (tasks i)) in
    let same : c.as_slice-5.result.now ≡ are_at owners old.seats.items =
    c.as_slice-5.ensures.value ∙ c.in_ok-stays.ensures ∙ (λ i. are_at ((c.items.ensures ∙ sym c.items-2.ensures) i) (c.as_slice-4.ensures.value i)) in
    ok-more c.moved.result
    (λ next has items p ms sound h idle.
    subst (λ (os : List Owned). HasCome items (after_moves (has_left p.owners os) os (record p { live = live })) next)
    (is ∙ ap (λ (os : List Owned). assignment os live (tasks_of old.topology.subs)) h.owners)
    (has items (record p { live = live; journal = p.journal }) ms (has_left p.owners owners) sound
    (same-come items p ms old _ live p.journal
    (record { topology = refl; chain = refl; broker = refl; these = refl; seats = refl; sources = refl; rounds = refl; notes = h.journal }) c.requires.rises h)
    (assign-moves items p ms old h live c.requires.rises idle owners c.as_slice-5.result.now is same)))
    c.moved.ensures.come

pub returns-clause-events : goal.returns-clause-events
returns-clause-events c =
    let old : Cluster = c.args.self in
    let live = c.args.live.items in
    let owners : List Owned = c.items-2.result.now in
    let before : c.in_ok-before.before ≡ map owned_of old.seats.items = c.in_ok-before.ensures ∙ ap (map owned_of) c.as_slice.ensures.value in
    let tasks : c.as_slice-3.result.now ≡ tasks_of old.topology.subs = c.as_slice-3.ensures.value ∙ c.in_ok-tasks.ensures.value in
    let is : owners ≡ assignment (map owned_of old.seats.items) live (tasks_of old.topology.subs) =
    c.items-2.ensures ∙ c.in_ok-owners.ensures.value ∙ (λ i. assignment (before i) (c.as_slice-2.ensures.value i) (tasks i)) in
    let same : c.as_slice-5.result.now ≡ are_at owners old.seats.items =
    c.as_slice-5.ensures.value ∙ c.in_ok-stays.ensures ∙ (λ i. are_at ((c.items.ensures ∙ sym c.items-2.ensures) i) (c.as_slice-4.ensures.value i)) in
    ok-more c.moved.result
    (λ next has items p ms records sound h idle.
    happened-same items records ms old _ next refl refl
    (has items (record p { live = live; journal = p.journal }) ms (has_left p.owners owners) records sound
    (same-come items p ms old _ live p.journal
    (record { topology = refl; chain = refl; broker = refl; these = refl; seats = refl; sources = refl; rounds = refl; notes = h.journal }) c.requires.rises h)
    (assign-moves items p ms old h live c.requires.rises idle owners c.as_slice-5.result.now is same)))
    c.moved.ensures.events
