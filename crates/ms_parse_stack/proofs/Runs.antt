-- The steps over some symbols, one after another.
use Rattle.std.proofs.Common.{◌≡◌, List, [], ◌∷◌, ◌++◌, refl, subst}
use Rattle.ms_parse_stack.specs.inner.Machine.{Machine, State, within, done, stopped, GoesOn, Action, moves, enters, follows, stops, performed, run}

module _ {Prefix Binary Place Formula : Type 0} (m : Machine Prefix Binary Place Formula) where
  performed-stopped : (a : Action Prefix Binary Place Formula) → performed m a stopped ≡ stopped
  performed-stopped (moves move) = refl
  performed-stopped (enters opens) = refl
  performed-stopped (follows sign) = refl
  performed-stopped stops = refl

  -- what goes on has gone on before
  pub performed_on : (a : Action Prefix Binary Place Formula) (t : State Prefix Binary Place Formula) → GoesOn (performed m a t) → GoesOn t
  performed_on a (within frames p) on = tt
  performed_on a (done f) on = tt
  performed_on a stopped on = subst GoesOn (performed-stopped a) on

  module _ {Symbol : Type 0} (action : Symbol → Action Prefix Binary Place Formula) where
    pub run_on : (t : State Prefix Binary Place Formula) (xs : List Symbol) → GoesOn (run m action t xs) → GoesOn t
    run_on t [] on = on
    run_on t (x ∷ xs) on = performed_on (action x) t (run_on (performed m (action x) t) xs on)

    pub run-append : (t : State Prefix Binary Place Formula) (xs ys : List Symbol) → run m action t (xs ++ ys) ≡ run m action (run m action t xs) ys
    run-append t [] ys = refl
    run-append t (x ∷ xs) ys = run-append (performed m (action x) t) xs ys
