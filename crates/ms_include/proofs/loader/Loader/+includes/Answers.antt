use Rattle.std.proofs.Common.{◌≡◌, ◌<◌, ◌+◌, ◌-◌, ◌⊎◌, length, drop, inr, refl, sym, ◌∙◌, subst, arith, List}
use Rattle.ms_edge.specs.declared.refusal.Refusal.TheVariants.{Memory}
use Rattle.ms_logic.specs.declared.source.Item.{Item}
use Rattle.ms_include.specs.Include.{Loads, OneStops, IsRefused, most_files}
use Rattle.ms_include.specs.Load.{files_of}
use Rattle.ms_include.proofs.Opening.{open-refused, header-refused, loaded, inner-refused, include-refused, include-put, next-refused, next-put, grown-more}
use Rattle.ms_include.proofs.Placing.{split}
use Rattle.std.proofs.lemmas.Iterator.Adapters.{YieldsList-from_vec}
use Rattle.std.proofs.lemmas.Iterator.Consumers.{YieldsList-so_far, YieldsList-turn}
use Rattle.ms_include.proofs.Parts.{first-part, later-read, second-part}
use Rattle.ms_include.proofs.loader.Loader.+includes.Goals as goal

pub include-returns-in-Err-clause-refused : goal.include-returns-in-Err-clause-refused
include-returns-in-Err-clause-refused g t c =
    λ request part. include-refused _ _ _ _ (sym c.is_loaded.ensures ∙ c.if-is_loaded.false) (c.in-Err.ensures.refused request part)

pub include-returns-clause-put : goal.include-returns-clause-put
include-returns-clause-put g t c = λ request part item.
    let put = c.in_default.ensures.put request part in
    (put.0, put.1, inr (sym c.is_loaded.ensures ∙ c.if-is_loaded.false, put.2))

pub load-returns-in-Err-clause-refused : goal.load-returns-in-Err-clause-refused
load-returns-in-Err-clause-refused g t c = λ request part.
    let positive : 0 < c.args.room = omega arith in
    let few : length c.args.names.now < c.args.self.now.base + most_files = omega arith in
    open-refused request (g.F.Files.told c.args.files.now).held c.args.self.now.base c.args.room c.len-number.result c.args.self.now.chain.items c.args.names.now c.open.new.names c.args.at c.args.name c.in-Err.refusal
    positive c.requires.begun c.len-number.ensures few part.held (c.in-Err.ensures.refused request part)

pub load-returns-in-Some-clause-refused : goal.load-returns-in-Some-clause-refused
load-returns-in-Some-clause-refused g t c = λ request part.
    let positive : 0 < c.args.room = omega arith in
    let few : length c.args.names.now < c.args.self.now.base + most_files = omega arith in
    subst (λ refusal. (refusal ≡ Memory) ⊎ IsRefused (files_of request c.args.self.now.base) c.args.room c.args.self.now.chain.items (drop c.args.self.now.base c.args.names.now) c.args.at c.args.name refusal (drop c.args.self.now.base c.open.new.names)) (sym c.header_inside.ensures)
    (header-refused request (g.F.Files.told c.args.files.now).held c.args.self.now.base c.args.room c.len-number.result c.args.self.now.chain.items c.args.names.now c.open.new.names c.args.at c.args.name
    c.in-Ok.parsed c.in-Some.at c.in-Some.field-0-1
    positive c.requires.begun c.len-number.ensures few part.held c.in-Ok.ensures.read c.in-Some.is c.in-Ok.ensures.noted)

pub load-returns-in-Err-put_all-clause-refused : goal.load-returns-in-Err-put_all-clause-refused
load-returns-in-Err-put_all-clause-refused g t c = λ request part.
    let positive : 0 < c.args.room = omega arith in
    let few : length c.args.names.now < c.args.self.now.base + most_files = omega arith in
    let later = (second-part (g.F.Files.told c.args.files.now) (g.F.Files.told c.open.new.files) (g.F.Files.told c.put_all.new.files) request part c.in-Ok.ensures.only_read c.in-Err-put_all.ensures.only_read) in
    inner-refused request (g.F.Files.told c.args.files.now).held c.args.self.now.base c.begin.new.self.base c.args.room (c.args.room - 1) c.len-number.result c.args.self.now.chain.items c.begin.new.self.chain.items c.args.names.now c.open.new.names c.put_all.new.names c.args.at c.args.name
    c.in-Ok.parsed c.in-Err-put_all.refusal
    c.in_ok-begin.ensures.base positive refl c.requires.begun c.len-number.ensures few part.held c.in-Ok.ensures.read c.in_default.is c.in-Ok.ensures.noted c.in_ok-begin.ensures.chain
    (c.in-Err-put_all.ensures.refused request later)

pub load-returns-clause-put : goal.load-returns-clause-put
load-returns-clause-put g t c = λ request part.
    let positive : 0 < c.args.room = omega arith in
    let few : length c.args.names.now < c.args.self.now.base + most_files = omega arith in
    let later = (second-part (g.F.Files.told c.args.files.now) (g.F.Files.told c.open.new.files) (g.F.Files.told c.put_all.new.files) request part c.in-Ok.ensures.only_read c.in_default-put_all.ensures.only_read) in
    let put = c.in_default-put_all.ensures.put request later in
    loaded request (g.F.Files.told c.args.files.now).held c.args.self.now.base c.begin.new.self.base c.args.room (c.args.room - 1) c.len-number.result c.args.self.now.chain.items c.begin.new.self.chain.items c.args.names.now c.open.new.names c.put_all.new.names c.args.name
    c.in-Ok.parsed c.args.self.now.items.items c.begin.new.self.items.items c.put_all.new.self.items.items put.0
    c.in_ok-begin.ensures.base positive refl c.requires.begun c.len-number.ensures few part.held c.in-Ok.ensures.read c.in_default.is c.in-Ok.ensures.noted c.in_ok-begin.ensures.chain c.in_ok-begin.ensures.items put.1 put.2

pub put-returns-in-Include-clause-put : goal.put-returns-in-Include-clause-put
put-returns-in-Include-clause-put g t c = λ request part.
    include-put _ (Loads (files_of request c.args.self.now.base) c.args.room) c.args.self.now.chain.items _ _ _ _ c.args.item c.args.item.decl c.in-Include.at c.in-Include.name c.in-Include.is (c.include.ensures.put request part c.args.item)

pub put_all-returns-in-Err-clause-refused : goal.put_all-returns-in-Err-clause-refused
put_all-returns-in-Err-clause-refused g t c = λ request part.
    let earlier = (first-part (g.F.Files.told c.args.files.now) (g.F.Files.told c.loop-item.files) (g.F.Files.told c.put.new.files) request part c.loop-item.invariant.3 c.in-Err.ensures.only_read) in
    let later = (second-part (g.F.Files.told c.args.files.now) (g.F.Files.told c.loop-item.files) (g.F.Files.told c.put.new.files) request part c.loop-item.invariant.3 c.in-Err.ensures.only_read) in
    let before = c.loop-item.invariant.4 request earlier in
    let road = YieldsList-from_vec {s = c.into_iter-item-iterator.result} c.into_vec-item-items.result.items c.into_iter-item-iterator.ensures.into_iter_gives.0 (omega (arith, c.into_iter-item-iterator.ensures.into_iter_gives.1, c.into_vec-item-items.result.ok)) in
    let P : List Item → Type 0 = λ items. (c.in-Err.refusal ≡ Memory)
    ⊎ OneStops (Loads (files_of request c.args.self.now.base) c.args.room) (IsRefused (files_of request c.args.self.now.base) c.args.room) c.args.self.now.chain.items (drop c.args.self.now.base c.args.names.now) items c.in-Err.refusal (drop c.args.self.now.base c.put.new.names) in
    subst P c.into_vec-item-items.ensures
    (next-refused request c.args.self.now.base c.loop-item.self.base c.args.room c.args.self.now.chain.items c.loop-item.self.chain.items c.args.names.now c.loop-item.names c.put.new.names c.loop-item.yielded c.into_vec-item-items.result.items c.in-Some.item _ before.0 c.in-Err.refusal c.loop-item.invariant.0 c.loop-item.invariant.1
    (split c.into_vec-item-items.result.items c.loop-item.yielded c.in-Some.item (YieldsList-so_far road c.loop-item.yielded c.loop-item.item-iterator c.loop-item.yielded_by) (YieldsList-turn road c.loop-item.yielded c.loop-item.item-iterator c.loop-item.yielded_by c.next.result c.next.new.self c.in-Some.item c.in-Some.is c.next.ensures.steps)) before.2
    (c.in-Err.ensures.refused request later))

pub put_all-loop-item-preserved : goal.put_all-loop-item-preserved
put_all-loop-item-preserved g t c = (
  c.in_default.ensures.base ∙ c.loop-item.invariant.0,
  c.in_default.ensures.chain ∙ c.loop-item.invariant.1,
  grown-more c.args.names.now c.loop-item.names c.put.new.names c.loop-item.invariant.2 c.in_default.ensures.grown,
  later-read (g.F.Files.told c.args.files.now) (g.F.Files.told c.loop-item.files) (g.F.Files.told c.put.new.files) c.loop-item.invariant.3 c.in_default.ensures.only_read,
  λ request part.
      let earlier = (first-part (g.F.Files.told c.args.files.now) (g.F.Files.told c.loop-item.files) (g.F.Files.told c.put.new.files) request part c.loop-item.invariant.3 c.in_default.ensures.only_read) in
      let later = (second-part (g.F.Files.told c.args.files.now) (g.F.Files.told c.loop-item.files) (g.F.Files.told c.put.new.files) request part c.loop-item.invariant.3 c.in_default.ensures.only_read) in
      let before = c.loop-item.invariant.4 request earlier in
      let put = c.in_default.ensures.put request later in
      next-put request c.args.self.now.base c.loop-item.self.base c.args.room c.args.self.now.chain.items c.loop-item.self.chain.items c.args.names.now c.loop-item.names c.put.new.names c.loop-item.yielded c.in-Some.item
      c.args.self.now.items.items c.loop-item.self.items.items c.put.new.self.items.items before.0 put.0 c.loop-item.invariant.0 c.loop-item.invariant.1 before.1 before.2 put.1 put.2,
)
