use Rattle.std.proofs.Common.{◌≡◌, ℕ, ◌<◌, ◌++◌, ◌∷◌, [], List, length, get_or, set, true, sym, subst, arith}
use Rattle.std.proofs.lemmas.List.Elements.{All-push}
use Rattle.ms_quotient.specs.Way.{IsSeenAlong, LeadsTo}
use Rattle.ms_quotient.proofs.WayLemmas.{IsSeenAlong-more, LeadsTo-more, start_seen}
use Rattle.ms_quotient.proofs.way.go_on.Goals as goal

pub loop-seen-preserved : goal.loop-seen-preserved
loop-seen-preserved c =
    let was = c.loop-seen.invariant in
    let here = c.loop-seen.end in
    let pushed : c.push.new.list ≡ c.loop-seen.places ++ here ∷ [] = c.in_ok-push.ensures.ok in
    let less : here < length c.loop-seen.seen = omega (arith, c.loop-seen.auto.seen, c.requires.long, was.within) in
    record {
      way = subst (λ (way : List ℕ). LeadsTo c.args.next.now c.args.start way (get_or c.args.next.now here 0)) (sym pushed) (LeadsTo-more c.args.next.now c.args.start here c.loop-seen.places was.way);
      all = rw pushed (All-push (λ place. place < length c.args.next.now) c.loop-seen.places here was.all was.within);
      within = c.requires.within here was.within;
      along = subst (λ (way : List ℕ). IsSeenAlong c.args.seen.now (set c.loop-seen.seen here true) way) (sym pushed) (IsSeenAlong-more c.args.seen.now c.loop-seen.seen c.loop-seen.places here was.along less);
      here = start_seen c.loop-seen.seen c.args.start here (get_or c.args.next.now here 0) less was.here;
    }
