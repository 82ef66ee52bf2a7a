use Rattle.std.proofs.Common.{map, ap, sym, ◌∙◌}
use Rattle.ms_ltlf.specs.Tree.{truth, depth}
use Rattle.ms_ltlf.specs.View.{temporal_of}
use Rattle.ms_parse_stack.specs.inner.Machine.{moved}
use Rattle.ms_ltlf_parse.specs.inner.Machine.{leaf, machine, shortest}
use Rattle.ms_ltlf_parse.specs.inner.States.{frame_of, state_of}
use Rattle.ms_parse_stack.proofs.Depths.{same_depth}
use Rattle.ms_ltlf_parse.proofs.Groupings.{depths}
use Rattle.ms_ltlf_parse.proofs.enter.read_leaf.Goals as goal

pub returns-in-Wanted : goal.returns-in-Wanted
returns-in-Wanted c =
    let f = temporal_of c.args.formula in
    let same = c.requires.measured.measured ∙ ap (λ o. depth (shortest (state_of c.args.begun.now o))) c.in-Wanted.is in (
      ap (λ o. moved machine (leaf f) (state_of c.args.begun.now o)) c.in-Wanted.is,
      record {
        measured = same ∙ same_depth depths (map frame_of c.args.begun.now.frames) truth f (sym c.requires.leaf);
        shallow = c.requires.measured.shallow;
      },
    )
