use Rattle.std.proofs.Common.{◌≡◌, ◌<◌, Some, length, get_or, refl, sym, ap, ◌∙◌, arith}
use Rattle.std.specs.Option.{option_map}
use Rattle.mm_catalog.specs.Assigned.{set_link}
use Rattle.mm_catalog.specs.Counted.{IsHeldIn, linked_of, none}
use Rattle.mm_catalog.proofs.Counted.{counted_as, counted_none, held_still}
use Rattle.mm_catalog.proofs.SetLinks.{no_set_links, raised_link, raised_skip, room_next, set_link_among}
use Rattle.mm_catalog.proofs.updating.count_up_sets.Goals as goal
use Rattle.mm_catalog.proofs.updating.count_up_sets.Goals.{in-Some, in_default}

pub loop-set-init : goal.loop-set-init
loop-set-init c =
    counted_as c.args.before.now c.args.before.now none none _ none
    (no_set_links c.args.relation.now.targets c.args.sets.now c.args.n) (λ table q. refl) (counted_none c.args.before.now c.requires.kept)

pub count_up-requires-clause-held : goal.count_up-requires-clause-held
count_up-requires-clause-held c =
    let targets = c.args.relation.now.targets in
    let sets = c.args.sets.now in
    let i = c.loop-set.set-index in
    let within : i < length sets = omega (arith, c.loop-set-test.true) in
    let link : set_link targets (get_or sets i c.set-item.result) ≡ Some (linked_of c.in-Some.link) =
    ap (set_link targets) (sym c.set-item.is) ∙ sym c.link_set.ensures ∙ ap (option_map linked_of) c.in-Some.is in
    held_still c.args.before.now c.loop-set.before (linked_of c.in-Some.link) c.loop-set.invariant.recounted
    (set_link_among targets sets (IsHeldIn c.args.before.now) i c.set-item.result (linked_of c.in-Some.link) c.requires.held within link)

pub count_up-requires-clause-room : goal.count_up-requires-clause-room
count_up-requires-clause-room c =
    let within : c.loop-set.set-index < length c.args.sets.now = omega (arith, c.loop-set-test.true) in
    room_next c.args.before.now c.loop-set.before c.args.relation.now.targets c.args.sets.now c.args.n c.loop-set.set-index c.set-item.result within c.loop-set.invariant c.requires.room

pub loop-set-preserved : goal.loop-set-preserved
loop-set-preserved c =
    let targets = c.args.relation.now.targets in
    let sets = c.args.sets.now in
    let n = c.args.n in
    let i = c.loop-set.set-index in
    let d = c.set-item.result in
    let old = c.args.before.now in
    let within : i < length sets = omega (arith, c.loop-set-test.true) in
    elim c.match-link_set.branch [
      | in-Some w ↦
          let link : set_link targets (get_or sets i d) ≡ Some (linked_of w.in-Some.link) =
          ap (set_link targets) (sym c.set-item.is) ∙ sym c.link_set.ensures ∙ ap (option_map linked_of) w.in-Some.is in
          rw w.before-is (raised_link old c.loop-set.before targets sets n i d within c.loop-set.invariant w.count_up.new.before (linked_of w.in-Some.link) link w.count_up.ensures)
      | in_default w ↦
          rw w.before-is (raised_skip old c.loop-set.before targets sets n i d within c.loop-set.invariant
          (ap (set_link targets) (sym c.set-item.is) ∙ sym c.link_set.ensures ∙ ap (option_map linked_of) w.in_default.is))
    ]
