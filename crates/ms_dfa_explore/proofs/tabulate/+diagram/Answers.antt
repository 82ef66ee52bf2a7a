use Rattle.std.proofs.Common.{◌-◌, length, take, drop, slice_index_or, true, false, sym}
use Rattle.ms_diagram.proofs.Building.{Builds-part, fixed-high_refused, fixed-above_low, fixed-above_high, fixed-node}
use Rattle.ms_dfa_explore.specs.Small.{Tabulated, lead_by}
use Rattle.ms_dfa_explore.proofs.SmallLemmas.{first_before, Tabulated-first, Builds-tabulated_none}
use Rattle.ms_dfa_explore.proofs.tabulate.+diagram.Goals as goal

pub returns-then-is_empty-clause-builds : goal.returns-then-is_empty-clause-builds
returns-then-is_empty-clause-builds g t c =
    let lead = lead_by (g.M.SmallMachine.table c.args.machine.now).start (g.M.SmallMachine.table c.args.machine.now).step c.args.origin in
    Builds-tabulated_none c.args.store.now lead c.args.tracks.now c.args.given c.lead-number.result c.leaf.result c.len.ensures.store (sym c.if-is_empty.ensures) c.lead-number.ensures c.leaf.ensures

pub returns-in-Err-clause-builds : goal.returns-in-Err-clause-builds
returns-in-Err-clause-builds g t c =
    let lead = lead_by (g.M.SmallMachine.table c.args.machine.now).start (g.M.SmallMachine.table c.args.machine.now).step c.args.origin in
    let tracks = c.args.tracks.now in
    let track = slice_index_or tracks 0 0 in
    let more = take (length tracks - 1) (drop 1 tracks) in
    let whole = Tabulated lead tracks c.args.given in
    let parts = first_before tracks (sym c.if-is_empty.ensures) in
    let low_part = Tabulated lead more c.with.result in
    let low_is = Tabulated-first lead tracks more track c.args.given c.with.result false parts c.with.ensures c.requires.rising in
    Builds-part c.args.store.now c.diagram.new.store whole low_part ⊥ ⊥ track false low_is (λ never. never) c.in-Err.fault c.in-Err.ensures.builds

pub returns-in-Err-diagram-clause-builds : goal.returns-in-Err-diagram-clause-builds
returns-in-Err-diagram-clause-builds g t c =
    let lead = lead_by (g.M.SmallMachine.table c.args.machine.now).start (g.M.SmallMachine.table c.args.machine.now).step c.args.origin in
    let tracks = c.args.tracks.now in
    let track = slice_index_or tracks 0 0 in
    let more = take (length tracks - 1) (drop 1 tracks) in
    let whole = Tabulated lead tracks c.args.given in
    let parts = first_before tracks (sym c.if-is_empty.ensures) in
    let low_part = Tabulated lead more c.with.result in
    let low_is = Tabulated-first lead tracks more track c.args.given c.with.result false parts c.with.ensures c.requires.rising in
    let high_part = Tabulated lead more c.with-2.result in
    let high_is = Tabulated-first lead tracks more track c.args.given c.with-2.result true parts c.with-2.ensures c.requires.rising in
    fixed-high_refused c.args.store.now c.diagram.new.store c.diagram-2.new.store c.diagram-2.new.store whole low_part high_part track c.in-Ok.low c.in-Ok.low c.len.ensures.store low_is high_is
    c.in-Ok.ensures.builds c.in-Err-diagram.fault c.in-Err-diagram.ensures.builds

pub mk-requires-clause-above_low : goal.mk-requires-clause-above_low
mk-requires-clause-above_low g t c =
    let lead = lead_by (g.M.SmallMachine.table c.args.machine.now).start (g.M.SmallMachine.table c.args.machine.now).step c.args.origin in
    let tracks = c.args.tracks.now in
    let track = slice_index_or tracks 0 0 in
    let more = take (length tracks - 1) (drop 1 tracks) in
    let whole = Tabulated lead tracks c.args.given in
    let parts = first_before tracks (sym c.if-is_empty.ensures) in
    let low_part = Tabulated lead more c.with.result in
    let low_is = Tabulated-first lead tracks more track c.args.given c.with.result false parts c.with.ensures c.requires.rising in
    let high_part = Tabulated lead more c.with-2.result in
    let high_is = Tabulated-first lead tracks more track c.args.given c.with-2.result true parts c.with-2.ensures c.requires.rising in
    fixed-above_low c.args.store.now c.diagram.new.store c.diagram-2.new.store c.diagram-2.new.store whole low_part high_part track c.in-Ok.low c.in-Ok-diagram.high c.len.ensures.store low_is high_is
    c.in-Ok.ensures.builds c.in-Ok-diagram.ensures.builds

pub mk-requires-clause-above_high : goal.mk-requires-clause-above_high
mk-requires-clause-above_high g t c =
    let lead = lead_by (g.M.SmallMachine.table c.args.machine.now).start (g.M.SmallMachine.table c.args.machine.now).step c.args.origin in
    let tracks = c.args.tracks.now in
    let track = slice_index_or tracks 0 0 in
    let more = take (length tracks - 1) (drop 1 tracks) in
    let whole = Tabulated lead tracks c.args.given in
    let parts = first_before tracks (sym c.if-is_empty.ensures) in
    let low_part = Tabulated lead more c.with.result in
    let low_is = Tabulated-first lead tracks more track c.args.given c.with.result false parts c.with.ensures c.requires.rising in
    let high_part = Tabulated lead more c.with-2.result in
    let high_is = Tabulated-first lead tracks more track c.args.given c.with-2.result true parts c.with-2.ensures c.requires.rising in
    fixed-above_high c.args.store.now c.diagram.new.store c.diagram-2.new.store c.diagram-2.new.store whole low_part high_part track c.in-Ok.low c.in-Ok-diagram.high c.len.ensures.store low_is high_is
    c.in-Ok.ensures.builds c.in-Ok-diagram.ensures.builds

pub returns-clause-builds : goal.returns-clause-builds
returns-clause-builds g t c =
    let lead = lead_by (g.M.SmallMachine.table c.args.machine.now).start (g.M.SmallMachine.table c.args.machine.now).step c.args.origin in
    let tracks = c.args.tracks.now in
    let track = slice_index_or tracks 0 0 in
    let more = take (length tracks - 1) (drop 1 tracks) in
    let whole = Tabulated lead tracks c.args.given in
    let parts = first_before tracks (sym c.if-is_empty.ensures) in
    let low_part = Tabulated lead more c.with.result in
    let low_is = Tabulated-first lead tracks more track c.args.given c.with.result false parts c.with.ensures c.requires.rising in
    let high_part = Tabulated lead more c.with-2.result in
    let high_is = Tabulated-first lead tracks more track c.args.given c.with-2.result true parts c.with-2.ensures c.requires.rising in
    let makes = c.mk.ensures in
    fixed-node c.args.store.now c.diagram.new.store c.diagram-2.new.store c.mk.new.self whole low_part high_part track c.in-Ok.low c.in-Ok-diagram.high c.len.ensures.store low_is high_is
    c.in-Ok.ensures.builds c.in-Ok-diagram.ensures.builds c.mk.result
    (record { valid = makes.valid; function = makes.function; appends = makes.appends; refused = makes.refused; limit = makes.limit; store = makes.store; only_full = makes.only_full })
