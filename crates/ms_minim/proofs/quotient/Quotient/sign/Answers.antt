use Rattle.ms_minim.proofs.QuotientLemmas.{class_within, state_within, sign_seen}
use Rattle.ms_minim.proofs.quotient.Quotient.sign.Goals as goal

pub get-member-requires : goal.get-member-requires
get-member-requires c = class_within _ _ _ _ _ c.self.invariant c.args.state c.get-class.result c.get-class.ensures

pub sign-requires : goal.sign-requires
sign-requires c = state_within _ _ _ _ _ c.self.invariant c.get-class.result.0 c.get-member.result.now c.get-member.ensures

pub returns : goal.returns
returns c = sign_seen _ _ c.self.view_is c.args.state c.get-class.result c.get-class.ensures c.get-member.result.now c.get-member.ensures c.sign.result c.sign.ensures
