use Rattle.std.proofs.Common.{false, codes, option_map, Option, sym, ap, ◌∙◌}
use Rattle.std.specs.Borrow.{Bor}
use Rattle.std.specs.Option.{option_map_or}
use Rattle.std.specs.Str.{bytes_eq}
use Rattle.clap.specs.Words.{Text}
use Rattle.ms_app_words.proofs.words.is_given.Goals as goal

abbrev text_of : Option (Bor Text) → Option Text
text_of given = option_map (λ s. s.now) given

pub returns-in-Some : goal.returns-in-Some
returns-in-Some c =
    c.eq.ensures ∙ ap (λ (o : Option Text). option_map_or (λ text. bytes_eq text (codes "true")) o false) (ap text_of (sym c.in-Some.is) ∙ c.value_of.ensures)

pub returns-in-None : goal.returns-in-None
returns-in-None c = ap (λ (o : Option Text). option_map_or (λ text. bytes_eq text (codes "true")) o false) (ap text_of (sym c.in-None.is) ∙ c.value_of.ensures)
