use Rattle.std.proofs.Common.{sym, subst, arith}
use Rattle.std.proofs.lemmas.List.{nil_from_length}
use Rattle.std.proofs.lemmas.Result.{err_from_is_err_and}
use Rattle.ms_list.specs.declared.fault.StepFault.TheVariants.{Memory}
use Rattle.ms_diagram.specs.declared.walk.Turn.TheVariants.{Down}
use Rattle.ms_diagram.proofs.Walking.{IsWalking}
use Rattle.ms_diagram.proofs.WalkLemmas.{walk_begun, visit_instead, walk_done, fits_down, visit_made, visit_split, visit_refused, walk_high, end_valid_low, end_above_low, end_above_high, node_refused, walk_node, node_forgotten}
use Rattle.ms_diagram.proofs.store.Store.walk.Goals as goal
use Rattle.ms_diagram.proofs.store.Store.walk.Goals.{in-Down+in_ok-made-in-Down+in-Made, in-Down+in_ok-made-in-Down+in-Instead, in-Down+in_ok-made-in-Down+in-Split+in-Ok, in-Up+in-Some-Low+in-Ok-push, in-Up+in-Some-High+in_ok-node-in-Some-High+in_ok-remember-in-Some-High}

pub loop-init : goal.loop-init
loop-init g c =
    subst (λ frames. IsWalking g.W.Walk.rules c.args.self.now c.args.walk.now c.args.root c.args.self.now c.args.walk.now (g.T.Notes.entries c.args.notes.now) frames (Down c.args.root))
    (sym c.new-frames.ensures.items)
    (walk_begun g.W.Walk.rules _ g.met.W.Walk.laws c.args.self.now c.args.walk.now c.args.root c.requires.store c.requires.right c.requires.fits (g.T.Notes.entries c.args.notes.now) c.requires.table)

pub visit-requires-clause-fits : goal.visit-requires-clause-fits
visit-requires-clause-fits g c =
    fits_down g.W.Walk.rules _ g.met.W.Walk.laws c.args.self.now c.args.walk.now c.args.root c.requires.store
    c.loop.self c.loop.walk (g.T.Notes.entries c.loop.notes) c.loop.frames.items c.in-Down.item (rw c.in-Down.is at c.loop.invariant)

pub returns-in_err-made-in-Down : goal.returns-in_err-made-in-Down
returns-in_err-made-in-Down g c =
    let p = err_from_is_err_and c.from_residual.result c.from_residual.ensures.1 in
    let found = c.in_err-made-in-Down.ensures in
    rw (p.1, p.2) (visit_refused g.W.Walk.rules _ g.met.W.Walk.laws c.args.self.now c.args.walk.now c.args.root c.requires.store
    c.loop.self c.loop.walk (g.T.Notes.entries c.loop.notes) c.loop.frames.items c.in-Down.item (rw c.in-Down.is at c.loop.invariant)
    c.visit.new.self found.later found.right found.added (g.T.Notes.entries c.visit.new.notes) found.kept c.in_err-made-in-Down.field-0.0 found.nodes)

pub returns-in_default : goal.returns-in_default
returns-in_default g c =
    let found = c.in_ok-made-in-Down.ensures in
    visit_refused g.W.Walk.rules _ g.met.W.Walk.laws c.args.self.now c.args.walk.now c.args.root c.requires.store
    c.loop.self c.loop.walk (g.T.Notes.entries c.loop.notes) c.loop.frames.items c.in-Down.item (rw c.in-Down.is at c.loop.invariant)
    c.visit.new.self found.later found.right found.added (g.T.Notes.entries c.visit.new.notes) found.kept Memory tt

pub mk-requires-clause-valid_low : goal.mk-requires-clause-valid_low
mk-requires-clause-valid_low g c =
    end_valid_low g.W.Walk.rules _ g.met.W.Walk.laws c.args.self.now c.args.walk.now c.args.root c.requires.store
    c.loop.self c.loop.walk (g.T.Notes.entries c.loop.notes) c.loop.frames.items c.pop.new.self.items c.in-Some-High.key c.in-Some-High.var c.in-Some-High.low c.in-Up.made
    (rw c.in-Up.is at c.loop.invariant) (rw c.in-Some-High.field-0-is at c.in-Some-High.ensures.items)

pub mk-requires-clause-above_low : goal.mk-requires-clause-above_low
mk-requires-clause-above_low g c =
    end_above_low g.W.Walk.rules _ g.met.W.Walk.laws c.args.self.now c.args.walk.now c.args.root c.requires.store
    c.loop.self c.loop.walk (g.T.Notes.entries c.loop.notes) c.loop.frames.items c.pop.new.self.items c.in-Some-High.key c.in-Some-High.var c.in-Some-High.low c.in-Up.made
    (rw c.in-Up.is at c.loop.invariant) (rw c.in-Some-High.field-0-is at c.in-Some-High.ensures.items)

pub mk-requires-clause-above_high : goal.mk-requires-clause-above_high
mk-requires-clause-above_high g c =
    end_above_high g.W.Walk.rules _ g.met.W.Walk.laws c.args.self.now c.args.walk.now c.args.root c.requires.store
    c.loop.self c.loop.walk (g.T.Notes.entries c.loop.notes) c.loop.frames.items c.pop.new.self.items c.in-Some-High.key c.in-Some-High.var c.in-Some-High.low c.in-Up.made
    (rw c.in-Up.is at c.loop.invariant) (rw c.in-Some-High.field-0-is at c.in-Some-High.ensures.items)

pub returns-in_err-node-in-Some-High : goal.returns-in_err-node-in-Some-High
returns-in_err-node-in-Some-High g c =
    let p = err_from_is_err_and c.from_residual-in_err-node-in-Some-High.result c.from_residual-in_err-node-in-Some-High.ensures.1 in
    let makes = c.in_err-node-in-Some-High.ensures in
    rw (p.1, p.2) (node_refused g.W.Walk.rules _ g.met.W.Walk.laws c.args.self.now c.args.walk.now c.args.root c.requires.store
    c.loop.self c.loop.walk (g.T.Notes.entries c.loop.notes) c.loop.frames.items c.pop.new.self.items c.in-Some-High.key c.in-Some-High.var c.in-Some-High.low c.in-Up.made
    (rw c.in-Up.is at c.loop.invariant) (rw c.in-Some-High.field-0-is at c.in-Some-High.ensures.items) c.mk.new.self c.in_err-node-in-Some-High.field-0.0
    (record { valid = makes.valid; function = makes.function; appends = makes.appends; refused = makes.refused; limit = makes.limit; store = makes.store; only_full = makes.only_full }))

pub returns-in_err-remember-in-Some-High : goal.returns-in_err-remember-in-Some-High
returns-in_err-remember-in-Some-High g c =
    let p = err_from_is_err_and c.from_residual-in_err-remember-in-Some-High.result c.from_residual-in_err-remember-in-Some-High.ensures.1 in
    let makes = c.in_ok-node-in-Some-High.ensures in
    rw (p.1, p.2, c.in_err-remember-in-Some-High.ensures.handed) (node_forgotten g.W.Walk.rules _ g.met.W.Walk.laws c.args.self.now c.args.walk.now c.args.root c.requires.store
    c.loop.self c.loop.walk (g.T.Notes.entries c.loop.notes) c.loop.frames.items c.pop.new.self.items c.in-Some-High.key c.in-Some-High.var c.in-Some-High.low c.in-Up.made
    (rw c.in-Up.is at c.loop.invariant) (rw c.in-Some-High.field-0-is at c.in-Some-High.ensures.items) c.mk.new.self c.in_ok-node-in-Some-High.node
    (record { valid = makes.valid; function = makes.function; appends = makes.appends; refused = makes.refused; limit = makes.limit; store = makes.store; only_full = makes.only_full })
    (g.T.Notes.entries c.remember.new.notes) c.remember.ensures.entries)

pub returns-in-None : goal.returns-in-None
returns-in-None g c =
    walk_done g.W.Walk.rules _ g.met.W.Walk.laws c.args.self.now c.args.walk.now c.args.root c.requires.store
    c.loop.self c.loop.walk (g.T.Notes.entries c.loop.notes) c.loop.frames.items c.in-Up.made (rw c.in-Up.is at c.loop.invariant)
    (nil_from_length c.loop.frames.items (omega (arith, c.in-None.ensures.cases.0, c.loop.frames.ok.0)))

pub loop-preserved : goal.loop-preserved
loop-preserved g c = elim c.match-turn.branch [
  | in-Down+in_ok-made-in-Down+in-Made w ↦
      let found = w.in_ok-made-in-Down.ensures in
      rw (w.self-is, w.walk-is, w.notes-is, w.frames-is, w.turn-is) (visit_made g.W.Walk.rules _ g.met.W.Walk.laws c.args.self.now c.args.walk.now c.args.root c.requires.store
      c.loop.self c.loop.walk (g.T.Notes.entries c.loop.notes) c.loop.frames.items w.in-Down.item (rw w.in-Down.is at c.loop.invariant)
      w.visit.new.self found.later found.right found.added (g.T.Notes.entries w.visit.new.notes) found.kept w.in-Made.made (rw w.in-Made.is at found.visited))
  | in-Down+in_ok-made-in-Down+in-Instead w ↦
      let found = w.in_ok-made-in-Down.ensures in
      rw (w.self-is, w.walk-is, w.notes-is, w.frames-is, w.turn-is) (visit_instead g.W.Walk.rules _ g.met.W.Walk.laws c.args.self.now c.args.walk.now c.args.root c.requires.store
      c.loop.self c.loop.walk (g.T.Notes.entries c.loop.notes) c.loop.frames.items w.in-Down.item (rw w.in-Down.is at c.loop.invariant)
      w.visit.new.self found.later found.right found.added (g.T.Notes.entries w.visit.new.notes) found.kept w.in-Instead.other (rw w.in-Instead.is at found.visited))
  | in-Down+in_ok-made-in-Down+in-Split+in-Ok w ↦
      let found = w.in_ok-made-in-Down.ensures in
      rw (w.self-is, w.walk-is, w.notes-is, w.frames-is, w.turn-is, w.in-Ok.ensures.items) (visit_split g.W.Walk.rules _ g.met.W.Walk.laws c.args.self.now c.args.walk.now c.args.root c.requires.store
      c.loop.self c.loop.walk (g.T.Notes.entries c.loop.notes) c.loop.frames.items w.in-Down.item (rw w.in-Down.is at c.loop.invariant)
      w.visit.new.self found.later found.right found.added (g.T.Notes.entries w.visit.new.notes) found.kept w.in-Split.key w.in-Split.var w.in-Split.low w.in-Split.high (rw w.in-Split.is at found.visited))
  | in-Up+in-Some-Low+in-Ok-push w ↦
      rw (w.self-is, w.walk-is, w.notes-is, w.frames-is, w.turn-is, w.in-Ok-push.ensures.items) (walk_high g.W.Walk.rules _ g.met.W.Walk.laws c.args.self.now c.args.walk.now c.args.root c.requires.store
      c.loop.self c.loop.walk (g.T.Notes.entries c.loop.notes) c.loop.frames.items w.pop.new.self.items w.in-Some-Low.key w.in-Some-Low.var w.in-Some-Low.high w.in-Up.made
      (rw w.in-Up.is at c.loop.invariant) (rw w.in-Some-Low.field-0-is at w.in-Some-Low.ensures.items))
  | in-Up+in-Some-High+in_ok-node-in-Some-High+in_ok-remember-in-Some-High w ↦
      let makes = w.in_ok-node-in-Some-High.ensures in
      rw (w.self-is, w.walk-is, w.notes-is, w.frames-is, w.turn-is, w.in_ok-remember-in-Some-High.ensures.handed) (walk_node g.W.Walk.rules _ g.met.W.Walk.laws c.args.self.now c.args.walk.now c.args.root c.requires.store
      c.loop.self c.loop.walk (g.T.Notes.entries c.loop.notes) c.loop.frames.items w.pop.new.self.items w.in-Some-High.key w.in-Some-High.var w.in-Some-High.low w.in-Up.made
      (rw w.in-Up.is at c.loop.invariant) (rw w.in-Some-High.field-0-is at w.in-Some-High.ensures.items) w.mk.new.self w.in_ok-node-in-Some-High.node
      (record { valid = makes.valid; function = makes.function; appends = makes.appends; refused = makes.refused; limit = makes.limit; store = makes.store; only_full = makes.only_full })
      (g.T.Notes.entries w.remember.new.notes) w.remember.ensures.entries)
]
