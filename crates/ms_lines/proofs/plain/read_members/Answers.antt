use Rattle.std.proofs.Common.{◌≡◌, ◌∙◌, [], Option, None, Some, Vec, String, Global, map, ap, subst, refl, rules, arith}
use Rattle.std.specs.Prelude.{codes, option_map}
use Rattle.std.specs.String.{string_bytes}
use Rattle.json.specs.Json.{read_key}
use Rattle.ms_lines.specs.Seen.{id_seen, ids_seen}
use Rattle.ms_lines.proofs.PlainLemmas.{MembersSoFar, members_begin, id_more, words_more, source_more, members_done}
use Rattle.ms_lines.proofs.plain.read_members.Goals as goal

pub members-init : goal.members-init
members-init c = (([], (refl, refl)), members_begin c.args.reader.now)

pub members-preserved-then-eq : goal.members-preserved-then-eq
members-preserved-then-eq c =
    let named : read_key c.members.reader ≡ Some (Some c.in-Some.name.now, c.next_key.new.self) = grind arith in
    let is : c.in-Some.name.now ≡ codes "id" = search rules in (
      c.members.invariant.0,
      id_more c.args.reader.now c.members.reader c.next_key.new.self c.read_id.new.reader (ids_seen c.members.id)
          (option_map (λ words. map string_bytes words.items) c.members.words) c.members.source.now (id_seen c.in_ok-read_id.field-0)
          (named ∙ ap (λ k. Some (Some k, c.next_key.new.self)) is) c.in_ok-read_id.ensures.reads c.in_ok-read_id.ensures.shorter c.members.invariant.1,
    )

pub members-preserved-then-eq-2 : goal.members-preserved-then-eq-2
members-preserved-then-eq-2 c =
    let named : read_key c.members.reader ≡ Some (Some c.in-Some.name.now, c.next_key.new.self) = grind arith in
    let is : c.in-Some.name.now ≡ codes "words" = search rules in (
      c.members.invariant.0,
      words_more c.args.reader.now c.members.reader c.next_key.new.self c.read_words.new.reader (ids_seen c.members.id)
          (option_map (λ words. map string_bytes words.items) c.members.words) c.members.source.now (map string_bytes c.in_ok-read_words.field-0.items)
          (named ∙ ap (λ k. Some (Some k, c.next_key.new.self)) is) c.in_ok-read_words.ensures.reads c.in_ok-read_words.ensures.shorter c.members.invariant.1,
    )

pub members-preserved : goal.members-preserved
members-preserved c =
    let named : read_key c.members.reader ≡ Some (Some c.in-Some.name.now, c.next_key.new.self) = grind arith in
    let is : c.in-Some.name.now ≡ codes "source" = search rules in (
      search rules,
      source_more c.args.reader.now c.members.reader c.next_key.new.self c.read_text.new.reader (ids_seen c.members.id)
          (option_map (λ words. map string_bytes words.items) c.members.words) c.members.source.now c.in_ok-source.source.now
          (named ∙ ap (λ k. Some (Some k, c.next_key.new.self)) is) c.in_ok-source.ensures c.members.invariant.1,
    )

pub returns : goal.returns
returns c =
    let key : read_key c.members.reader ≡ Some (None, c.next_key.new.self) = grind arith in
    let none : c.next_key.new.self ≡ [] = grind arith in
    members_done c.args.reader.now c.members.reader c.next_key.new.self (ids_seen c.members.id) (map string_bytes c.in-Some-words.words.items) c.members.source.now
    key none
    (subst (λ (words : Option (Vec (String Global) Global)). MembersSoFar c.args.reader.now c.members.reader (ids_seen c.members.id)
    (option_map (λ words. map string_bytes words.items) words) c.members.source.now) c.in-Some-words.is c.members.invariant.1)
