use Rattle.std.proofs.Common.{refl}
use Rattle.ms_arena.proofs.Appending.{Extends-same}
use Rattle.ms_logic_words.specs.Content.{is_in_letters}
use Rattle.ms_minim.specs.inner.Quotient.{Quotienting}
use Rattle.ms_minim.proofs.OriginLemmas.{seen_next}
use Rattle.ms_minim.proofs.QuotientLemmas.{class_within, state_within, sign_seen, LeadsOn-behind}
use Rattle.ms_minim.proofs.SettledLemmas.{own_image}
use Rattle.ms_minim.proofs.settled.own_state.Goals as goal

pub get-member-requires : goal.get-member-requires
get-member-requires c = class_within _ _ _ _ _ c.requires.quotient c.args.number c.get-class.result c.get-class.ensures

pub sign-sign-requires : goal.sign-sign-requires
sign-sign-requires c = state_within _ _ _ _ _ c.requires.quotient c.get-class.result.0 c.get-member.result.now c.get-member.ensures

pub next_ref-root-requires : goal.next_ref-root-requires
next_ref-root-requires c = state_within _ _ _ _ _ c.requires.quotient c.get-class.result.0 c.get-member.result.now c.get-member.ensures

pub returns-clause-leads : goal.returns-clause-leads
returns-clause-leads c =
    let a = c.args.source.now.automaton.now in
    let classes = c.args.source.now.partition.classes in
    let members = c.args.source.now.partition.members in
    let map = c.args.source.now.places in
    let pairs = c.args.pairs.now in
    let tables = c.args.tables.now in
    let root = c.next_ref-root.result in
    let member = c.get-member.result.now in
    let within = state_within a classes members map pairs c.requires.quotient c.get-class.result.0 member c.get-member.ensures in
    let image = own_image a classes members map pairs c.requires.quotient tables c.requires.tables c.requires.settled root
    (is_in_letters, c.next_ref-root.ensures.followed) (seen_next a tables.origins c.requires.tables.origins member within root c.next_ref-root.ensures.next) tables.images.list c.slice-classes.result.now
    c.image-next.result refl c.slice-classes.ensures c.image-next.ensures in
    record {
      valid = image.valid;
      meets = λ bits.
          LeadsOn-behind a classes members map pairs c.requires.quotient pairs (Extends-same pairs) c.requires.quotient.numbering c.args.number c.get-class.result c.get-class.ensures member c.get-member.ensures root
          c.next_ref-root.ensures.next bits _ (image.meets bits);
    }

pub returns-clause-sign : goal.returns-clause-sign
returns-clause-sign c =
    let quotient : Quotienting = record {
      content = c.args.source.now.automaton.now;
      classes = c.args.source.now.partition.classes;
      members = c.args.source.now.partition.members;
      places = c.args.source.now.places;
      pairs = c.args.pairs.now;
    } in
    sign_seen quotient quotient refl c.args.number c.get-class.result c.get-class.ensures c.get-member.result.now c.get-member.ensures c.sign-sign.result c.sign-sign.ensures
