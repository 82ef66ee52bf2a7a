use Rattle.ms_basic.proofs.ApartOverLemmas.{different_names}
use Rattle.ms_basic.proofs.relation.relation.Goals as goal

pub pair-requires : goal.pair-requires
pair-requires c = record { differ = different_names c.in-Member.x c.in-Member.s (rw c.in-Member.is at c.requires.orders) }

pub pair-requires-in-Min : goal.pair-requires-in-Min
pair-requires-in-Min c = record { differ = different_names c.in-Min.x c.in-Min.s (rw c.in-Min.is at c.requires.orders) }

pub pair-requires-in-Max : goal.pair-requires-in-Max
pair-requires-in-Max c = record { differ = different_names c.in-Max.x c.in-Max.s (rw c.in-Max.is at c.requires.orders) }
