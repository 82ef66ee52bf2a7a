use Rattle.std.proofs.Common.{rules, ◌≡◌, get_or}
use Rattle.ms_dfa.specs.declared.track.Track.{Track}
use Rattle.ms_logic.specs.declared.mode.Order.TheVariants.{Zero}
use Rattle.try_signs.proofs.OrdersLemmas.{contains-there}
use Rattle.try_signs.proofs.orders.contains.Goals as goal

pub returns-then-eq : goal.returns-then-eq
returns-then-eq c =
    let any : Track = record { variable = 0; order = Zero } in
    let order : (get_or c.args.tracks.now c.loop-other.other-index any).order ≡ c.args.track.order = search rules in
    λ holds. contains-there c.args.tracks.now c.loop-other.other-index any c.args.track c.loop-other-test.true c.if-other-track.true order
