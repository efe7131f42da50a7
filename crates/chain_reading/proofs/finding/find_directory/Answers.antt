use Rattle.std.proofs.Common.{◌≡◌, ◌∷◌, sym, ◌∙◌, ap, Some}
use Rattle.chain_reading.proofs.Common.{tree_under, no_directory_found}
use Rattle.chain_reading.proofs.KnownLaws.{is_known, has_directory, path_of_more, place_no_dir}
use Rattle.chain_reading.proofs.finding.find_directory.Goals as goal

pub search-requires-clause-directory : goal.search-requires-clause-directory
search-requires-clause-directory g c = λ t. has_directory c.args.client.now (g.K.Blocks.view c.args.disk.now) (is_known g.K.Blocks.told c.args.client.now (g.K.Blocks.view c.args.disk.now) t c.requires.may (g.met.K.Blocks.sound c.args.disk.now t c.requires.may.ready.unspent))

pub returns-in-Ok-clause-refused : goal.returns-in-Ok-clause-refused
returns-in-Ok-clause-refused g c = λ t ne.
    let me = c.args.client.now in
    let old = g.K.Blocks.view c.args.disk.now in
    let new = g.K.Blocks.view c.search.new.disk in
    let n = c.name-item.result in
    let parts = path_of_more c.as_slice.result.now n c.in-len1-up.len_at_least c.name-item.is in
    let path : c.args.path.now ≡ n ∷ parts.0 = sym c.as_slice.ensures.value ∙ parts.1 in
    let looks = c.in-Ok.ensures.looks in
    ap (no_directory_found (tree_under me old)) path
    ∙ (place_no_dir g.K.Blocks.told me old new t c.requires.may (g.met.K.Blocks.sound c.args.disk.now t c.requires.may.ready.unspent) (looks.looked t).0 looks.stays.0 n c.in-Ok.position (λ ls ps ahead. c.in-Ok.ensures.found t ls ps ahead) parts.0
    ∙ ap (λ e. Some e) (sym c.no_way.ensures))
