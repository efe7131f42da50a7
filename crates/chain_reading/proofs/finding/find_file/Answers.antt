use Rattle.std.proofs.Common.{◌≡◌, [], ◌∷◌, sym, ◌∙◌, ap, subst, Some}
use Rattle.chain_reading.proofs.Common.{tree_under, IsNameFound, IsFileOf, no_file_found}
use Rattle.chain_reading.proofs.KnownLaws.{is_known, has_directory, path_of_one, path_of_two, a_file_there, a_name, no_name, place_lost}
use Rattle.chain_reading.proofs.finding.find_file.Goals as goal

pub search-requires-clause-directory : goal.search-requires-clause-directory
search-requires-clause-directory g c = λ t. has_directory c.args.client.now (g.K.Blocks.view c.args.disk.now) (is_known g.K.Blocks.told c.args.client.now (g.K.Blocks.view c.args.disk.now) t c.requires.may (g.met.K.Blocks.sound c.args.disk.now t c.requires.may.ready.unspent))

pub search-requires-in-len2-up-clause-directory : goal.search-requires-in-len2-up-clause-directory
search-requires-in-len2-up-clause-directory g c = λ t. has_directory c.args.client.now (g.K.Blocks.view c.args.disk.now) (is_known g.K.Blocks.told c.args.client.now (g.K.Blocks.view c.args.disk.now) t c.requires.may (g.met.K.Blocks.sound c.args.disk.now t c.requires.may.ready.unspent))

pub returns-in-Ok-Taken-clause-found : goal.returns-in-Ok-Taken-clause-found
returns-in-Ok-Taken-clause-found g c = λ t.
    let me = c.args.client.now in
    let old = g.K.Blocks.view c.args.disk.now in
    let new = g.K.Blocks.view c.search.new.disk in
    let n = c.name-item.result in
    let path : c.args.path.now ≡ n ∷ [] = sym c.as_slice.ensures.value ∙ path_of_one c.as_slice.result.now n c.in-len1.len_at_least c.in-len1.len_below c.name-item.is in
    let looks = c.in-Ok-Taken.ensures.looks in
    subst (λ p. IsFileOf me new p c.in-Ok-Taken.first) (sym path)
    (a_file_there g.K.Blocks.told me old new t c.requires.may (g.met.K.Blocks.sound c.args.disk.now t c.requires.may.ready.unspent) (looks.looked t).0 looks.stays.0 n c.in-Ok-Taken.field-0-0 c.in-Ok-Taken.field-0-1 c.in-Ok-Taken.first
    (λ ls ps ahead. subst (IsNameFound me new n ls ps) c.in-Ok-Taken.field-0-is (c.in-Ok-Taken.ensures.found t ls ps ahead)))

pub returns-in-Ok-Taken-clause-none : goal.returns-in-Ok-Taken-clause-none
returns-in-Ok-Taken-clause-none g c = λ t.
    let me = c.args.client.now in
    let old = g.K.Blocks.view c.args.disk.now in
    let new = g.K.Blocks.view c.search.new.disk in
    let n = c.name-item.result in
    let path : c.args.path.now ≡ n ∷ [] = sym c.as_slice.ensures.value ∙ path_of_one c.as_slice.result.now n c.in-len1.len_at_least c.in-len1.len_below c.name-item.is in
    let looks = c.in-Ok-Taken.ensures.looks in
    ap (no_file_found (tree_under me old)) path
    ∙ a_name g.K.Blocks.told me old new t c.requires.may (g.met.K.Blocks.sound c.args.disk.now t c.requires.may.ready.unspent) (looks.looked t).0 looks.stays.0 n c.in-Ok-Taken.field-0-0 c.in-Ok-Taken.field-0-1 c.in-Ok-Taken.first
    (λ ls ps ahead. subst (IsNameFound me new n ls ps) c.in-Ok-Taken.field-0-is (c.in-Ok-Taken.ensures.found t ls ps ahead))

pub returns-in-Ok-Free-clause-refused : goal.returns-in-Ok-Free-clause-refused
returns-in-Ok-Free-clause-refused g c = λ t ne.
    let me = c.args.client.now in
    let old = g.K.Blocks.view c.args.disk.now in
    let new = g.K.Blocks.view c.search.new.disk in
    let n = c.name-item.result in
    let path : c.args.path.now ≡ n ∷ [] = sym c.as_slice.ensures.value ∙ path_of_one c.as_slice.result.now n c.in-len1.len_at_least c.in-len1.len_below c.name-item.is in
    let looks = c.in-Ok-Free.ensures.looks in
    ap (no_file_found (tree_under me old)) path
    ∙ no_name g.K.Blocks.told me old new t c.requires.may (g.met.K.Blocks.sound c.args.disk.now t c.requires.may.ready.unspent) (looks.looked t).0 looks.stays.0 n c.in-Ok-Free.field-0-0 c.in-Ok-Free.field-0-1
    (λ ls ps ahead. subst (IsNameFound me new n ls ps) c.in-Ok-Free.field-0-is (c.in-Ok-Free.ensures.found t ls ps ahead))

pub returns-in-Ok-clause-refused : goal.returns-in-Ok-clause-refused
returns-in-Ok-clause-refused g c = λ t ne.
    let me = c.args.client.now in
    let old = g.K.Blocks.view c.args.disk.now in
    let new = g.K.Blocks.view c.search-in-len2-up.new.disk in
    let n = c.name-item-2.result in
    let parts = path_of_two c.as_slice.result.now n c.in-len2-up.len_at_least c.name-item-2.is in
    let path : c.args.path.now ≡ n ∷ parts.0 ∷ parts.1 = sym c.as_slice.ensures.value ∙ parts.2 in
    let looks = c.in-Ok.ensures.looks in
    ap (no_file_found (tree_under me old)) path
    ∙ (place_lost g.K.Blocks.told me old new t c.requires.may (g.met.K.Blocks.sound c.args.disk.now t c.requires.may.ready.unspent) (looks.looked t).0 looks.stays.0 n c.in-Ok.position (λ ls ps ahead. c.in-Ok.ensures.found t ls ps ahead) parts.0 parts.1
    ∙ ap (λ e. Some e) (sym c.no_way.ensures))
