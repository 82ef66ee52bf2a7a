use Rattle.std.proofs.Common.{◌≡◌, ◌++◌, ◌∷◌, [], length, refl, arith}
use Rattle.std.proofs.lemmas.Grind.{common_steps}
use Rattle.monastr_c.proofs.Logs.{files_in-appended}
use Rattle.monastr_c.proofs.buffers.append.Goals as goal

pub returns-clause-ok : goal.returns-clause-ok
returns-clause-ok c =
    let bytes : c.extend-2.new.bytes.items ≡ c.args.bytes.now.items ++ c.args.name.now ++ c.args.content.now = grind (arith, common_steps) in
    let lengths : c.push.new.self.items ≡ c.args.lengths.now.items ++ (record { name = length c.args.name.now; content = length c.args.content.now }) ∷ [] = grind (arith, common_steps) in
    rw (bytes, lengths) (files_in-appended _ _ _ _ _ c.requires refl refl)
