use Rattle.std.proofs.Common.{◌≡◌, ◌<◌, ◌∙◌, sym, ap, subst, length, take, get_or, IsUtf8}
use Rattle.std.proofs.Common.{◌≤◌}
use Rattle.mdl_cli.proofs.ScopeLaws.{stands-at, stands-line, at-within, at-read}
use Rattle.mdl_cli.proofs.find.line_at.Goals as goal

pub bounds-list-module : goal.bounds-list-module
bounds-list-module c =
    let stands =
    stands-at c.args.set.now c.args.module c.args.at c.requires.short c.requires.is_set c.requires.placed in
    subst (λ names. c.args.module < length names) (sym c.list.ensures)
    (at-within c.args.set.now.names c.args.module c.requires.placed.member.name stands.name)

pub bounds-list-module-2 : goal.bounds-list-module-2
bounds-list-module-2 c =
    let stands =
    stands-at c.args.set.now c.args.module c.args.at c.requires.short c.requires.is_set c.requires.placed in
    subst (λ texts. c.args.module < length texts) (sym c.list-2.ensures)
    (at-within c.args.set.now.texts c.args.module c.requires.placed.member.text stands.text)

pub place_of-place-requires-clause-within : goal.place_of-place-requires-clause-within
place_of-place-requires-clause-within c =
    let member = c.requires.placed.member in
    let stands =
    stands-at c.args.set.now c.args.module c.args.at c.requires.short c.requires.is_set c.requires.placed in
    let text : c.as_bytes.result.now ≡ member.text =
    c.as_bytes.ensures.value ∙ (c.as_str-text.ensures
    ∙ at-read c.args.set.now.texts c.args.module member.text c.index-list-module-2.result stands.text
    (c.index-list-module-2.is
    ∙ ap (λ texts. get_or texts c.args.module c.index-list-module-2.result) c.list-2.ensures)) in
    subst (λ bytes. c.args.at ≤ length bytes) (sym text) stands.place.within

pub place_of-place-requires-clause-is_text : goal.place_of-place-requires-clause-is_text
place_of-place-requires-clause-is_text c =
    let member = c.requires.placed.member in
    let stands =
    stands-at c.args.set.now c.args.module c.args.at c.requires.short c.requires.is_set c.requires.placed in
    let text : c.as_bytes.result.now ≡ member.text =
    c.as_bytes.ensures.value ∙ (c.as_str-text.ensures
    ∙ at-read c.args.set.now.texts c.args.module member.text c.index-list-module-2.result stands.text
    (c.index-list-module-2.is
    ∙ ap (λ texts. get_or texts c.args.module c.index-list-module-2.result) c.list-2.ensures)) in
    subst (λ bytes. IsUtf8 (take c.args.at bytes)) (sym text) stands.place.front

pub place_of-place-requires-clause-short : goal.place_of-place-requires-clause-short
place_of-place-requires-clause-short c =
    let member = c.requires.placed.member in
    let stands =
    stands-at c.args.set.now c.args.module c.args.at c.requires.short c.requires.is_set c.requires.placed in
    let text : c.as_bytes.result.now ≡ member.text =
    c.as_bytes.ensures.value ∙ (c.as_str-text.ensures
    ∙ at-read c.args.set.now.texts c.args.module member.text c.index-list-module-2.result stands.text
    (c.index-list-module-2.is
    ∙ ap (λ texts. get_or texts c.args.module c.index-list-module-2.result) c.list-2.ensures)) in
    subst (λ bytes. length bytes ≤ 4194304) (sym text) stands.short

pub returns : goal.returns
returns c =
    let member = c.requires.placed.member in
    let stands =
    stands-at c.args.set.now c.args.module c.args.at c.requires.short c.requires.is_set c.requires.placed in
    let text : c.as_bytes.result.now ≡ member.text =
    c.as_bytes.ensures.value ∙ (c.as_str-text.ensures
    ∙ at-read c.args.set.now.texts c.args.module member.text c.index-list-module-2.result stands.text
    (c.index-list-module-2.is
    ∙ ap (λ texts. get_or texts c.args.module c.index-list-module-2.result) c.list-2.ensures)) in
    stands-line c.args.set.now c.args.fault c.args.module c.args.at member c.index-list-module.result
    c.as_bytes.result.now c.place_of-place.result c.scope_line.result stands
    (at-read c.args.set.now.names c.args.module member.name c.index-list-module.result stands.name
    (c.index-list-module.is
    ∙ ap (λ names. get_or names c.args.module c.index-list-module.result) c.list.ensures))
    text c.place_of-place.ensures.line c.place_of-place.ensures.column c.scope_line.ensures
