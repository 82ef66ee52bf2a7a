use Rattle.std.proofs.Common.{rules, inl, sym, subst, ◌∙◌}
use Rattle.ms_logic_words.specs.Content.{Content}
use Rattle.ms_logic_words.specs.declared.sign.Sign.{Sign}
use Rattle.ms_dfafile_adopt.specs.Import.{IsNotImportable}
use Rattle.ms_dfafile_adopt.specs.Short.{StringsLack}
use Rattle.ms_dfafile_adopt.proofs.FileLemmas.{first_open, refused_by, settled_file, settled_least, settled_signs}
use Rattle.ms_dfafile_adopt.proofs.adoption.own_in_mode.Goals as goal

pub returns-in-Ok-in_mode-clause-signs : goal.returns-in-Ok-in_mode-clause-signs
returns-in-Ok-in_mode-clause-signs c = settled_signs c.args.plain.now c.args.mode c.in-Ok.own c.in-Ok-in_mode.made c.in-Ok.ensures.signs c.in-Ok-in_mode.ensures.settled

pub returns-in-Ok-in_mode-clause-least : goal.returns-in-Ok-in_mode-clause-least
returns-in-Ok-in_mode-clause-least c = settled_least c.args.mode c.in-Ok.own c.in-Ok-in_mode.made c.in-Ok-in_mode.ensures.settled c.in-Ok.ensures.least

pub returns-in-Err-clause-refused : goal.returns-in-Err-clause-refused
returns-in-Err-clause-refused c =
    let plain = c.args.plain.now in
    subst (IsNotImportable plain c.args.used.now c.args.mode c.args.limit) (sym c.refused.ensures)
    (refused_by (Content Sign) (StringsLack c.args.limit plain) plain c.args.used.now c.args.mode c.args.limit c.in-Err.fault c.requires.fits inl c.in-Err.ensures.nodes)

pub returns-in-Ok-in_mode-clause-settled : goal.returns-in-Ok-in_mode-clause-settled
returns-in-Ok-in_mode-clause-settled c =
    settled_file c.args.plain.now c.requires.file c.args.mode c.in-Ok.own c.in-Ok-in_mode.made c.requires.fits.0 c.in-Ok.ensures.signs c.in-Ok-in_mode.ensures.settled

pub returns-in-Ok-new-clause-refused : goal.returns-in-Ok-new-clause-refused
returns-in-Ok-new-clause-refused c =
    let unsettled = rw c.in-Err-Open.field-0-is at c.in-Err-Open.ensures.unsettled in (
      search rules,
      search rules,
      c.requires.fits,
      unsettled.0,
      first_open c.args.plain.now c.requires.file c.in-Ok.own c.in-Ok.ensures.signs (c.requires.fits.0 ∙ unsettled.0) c.in-Err-Open.word unsettled.1,
      search rules,
    )
