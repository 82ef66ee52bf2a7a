use Rattle.std.proofs.Common.{length, take, ap, subst, sym, arith}
use Rattle.ms_dfa.specs.Automaton.{variables_of}
use Rattle.ms_logic.specs.Lists.{AreRising}
use Rattle.ms_dfa_explore.proofs.TracksLemmas.{distinct-rising}
use Rattle.ms_logic_core.specs.Operands.{variables_of_basic}
use Rattle.ms_basic.proofs.OperandsLemmas.{few_taken, few_tracks, orders-take, tracks_are, wires}
use Rattle.ms_basic.proofs.RelationLemmas.{relation_built, tells_wired}
use Rattle.ms_basic.proofs.ResidualLemmas.{differ_built, reached_built}
use Rattle.ms_basic.proofs.made.made.Goals as goal

pub wiring_of-wiring-requires : goal.wiring_of-wiring-requires
wiring_of-wiring-requires g c =
    omega (
      arith,
      ap length c.slice-2.ensures,
      few_tracks c.args.count c.args.form c.in-Ok.all c.slice.result.now c.in-Ok.ensures c.slice.ensures c.in-Ok-distinct.tracks c.in-Ok-distinct.ensures,
    )

pub from_machine-requires-clause-few : goal.from_machine-requires-clause-few
from_machine-requires-clause-few g c =
    few_tracks c.args.count c.args.form c.in-Ok.all c.slice.result.now c.in-Ok.ensures c.slice.ensures c.in-Ok-distinct.tracks c.in-Ok-distinct.ensures

pub from_machine-requires-clause-rising : goal.from_machine-requires-clause-rising
from_machine-requires-clause-rising g c =
    subst AreRising (sym c.in-Ok-distinct.ensures) (distinct-rising (variables_of (take c.args.count c.slice.result.now)))

pub from_machine-requires-clause-tells : goal.from_machine-requires-clause-tells
from_machine-requires-clause-tells g c =
    let operands = take c.args.count (variables_of_basic c.args.form) in
    tells_wired c.args.setting.mode operands (variables_of c.in-Ok-distinct.tracks) c.wiring_of-wiring.result c.args.form (g.M.SmallMachine.table c.args.machine)
    (orders-take c.args.count (variables_of_basic c.args.form) c.requires.orders) (few_taken c.args.count c.args.form) c.requires.decides
    (tracks_are c.args.count c.args.form c.in-Ok.all c.slice.result.now c.in-Ok.ensures c.slice.ensures c.in-Ok-distinct.tracks c.in-Ok-distinct.ensures)
    (wires c.args.count c.args.form c.in-Ok.all c.slice.result.now c.in-Ok.ensures c.slice.ensures c.in-Ok-distinct.tracks c.in-Ok-distinct.ensures
    c.wiring_of-wiring.result c.slice-2.result.now c.slice-2.ensures c.wiring_of-wiring.ensures)

pub returns : goal.returns
returns g c =
    let operands = take c.args.count (variables_of_basic c.args.form) in
    record {
      made = relation_built c.args.setting.mode operands (variables_of c.in-Ok-distinct.tracks) c.wiring_of-wiring.result c.args.form (g.M.SmallMachine.table c.args.machine) c.from_machine.result
          (orders-take c.args.count (variables_of_basic c.args.form) c.requires.orders) (few_taken c.args.count c.args.form) c.requires.decides
          (tracks_are c.args.count c.args.form c.in-Ok.all c.slice.result.now c.in-Ok.ensures c.slice.ensures c.in-Ok-distinct.tracks c.in-Ok-distinct.ensures)
          (wires c.args.count c.args.form c.in-Ok.all c.slice.result.now c.in-Ok.ensures c.slice.ensures c.in-Ok-distinct.tracks c.in-Ok-distinct.ensures
          c.wiring_of-wiring.result c.slice-2.result.now c.slice-2.ensures c.wiring_of-wiring.ensures)
          c.requires.variables c.from_machine.ensures.mode c.from_machine.ensures.variables c.from_machine.ensures.signs;
      differ = differ_built operands (variables_of c.in-Ok-distinct.tracks) c.wiring_of-wiring.result (g.M.SmallMachine.table c.args.machine) c.from_machine.result
          (tracks_are c.args.count c.args.form c.in-Ok.all c.slice.result.now c.in-Ok.ensures c.slice.ensures c.in-Ok-distinct.tracks c.in-Ok-distinct.ensures)
          (wires c.args.count c.args.form c.in-Ok.all c.slice.result.now c.in-Ok.ensures c.slice.ensures c.in-Ok-distinct.tracks c.in-Ok-distinct.ensures
          c.wiring_of-wiring.result c.slice-2.result.now c.slice-2.ensures c.wiring_of-wiring.ensures)
          c.from_machine.ensures.variables c.from_machine.ensures.states c.requires.apart;
      reached = reached_built operands (variables_of c.in-Ok-distinct.tracks) c.wiring_of-wiring.result (g.M.SmallMachine.table c.args.machine) c.from_machine.result
          (tracks_are c.args.count c.args.form c.in-Ok.all c.slice.result.now c.in-Ok.ensures c.slice.ensures c.in-Ok-distinct.tracks c.in-Ok-distinct.ensures)
          (wires c.args.count c.args.form c.in-Ok.all c.slice.result.now c.in-Ok.ensures c.slice.ensures c.in-Ok-distinct.tracks c.in-Ok-distinct.ensures
          c.wiring_of-wiring.result c.slice-2.result.now c.slice-2.ensures c.wiring_of-wiring.ensures)
          c.from_machine.ensures.variables c.from_machine.ensures.states c.from_machine.ensures.signs c.requires.apart c.requires.reached;
      within = c.from_machine.ensures.within;
      nodes = c.from_machine.ensures.nodes;
    }
