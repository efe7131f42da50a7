use Rattle.std.proofs.Common.{◌≡◌, ◌∷◌, sym, ◌∙◌, ap, Some}
use Rattle.chain_changes.proofs.Common.{lookup_refusal, tree_under, is_known, has_directory, path_of_two}
use Rattle.chain_changes.proofs.PlaceLaws.{is_at, lost}
use Rattle.chain_changes.proofs.finding.look_up.Goals as goal

pub search-requires-clause-directory : goal.search-requires-clause-directory
search-requires-clause-directory g c = λ t. has_directory c.args.client.now (g.K.Blocks.view c.args.disk.now) (is_known g.K.Blocks.told c.args.client.now (g.K.Blocks.view c.args.disk.now) t c.requires.may (g.met.K.Blocks.sound c.args.disk.now t c.requires.may.ready.unspent))

pub search-requires-in-len2-up-clause-directory : goal.search-requires-in-len2-up-clause-directory
search-requires-in-len2-up-clause-directory g c = λ t. has_directory c.args.client.now (g.K.Blocks.view c.args.disk.now) (is_known g.K.Blocks.told c.args.client.now (g.K.Blocks.view c.args.disk.now) t c.requires.may (g.met.K.Blocks.sound c.args.disk.now t c.requires.may.ready.unspent))

pub returns-in-Ok-clause-found : goal.returns-in-Ok-clause-found
returns-in-Ok-clause-found g c = λ t.
    let old = g.K.Blocks.view c.args.disk.now in
    let new = g.K.Blocks.view c.search.new.disk in
    is_at g.K.Blocks.told c.args.client.now old new t c.requires.may (g.met.K.Blocks.sound c.args.disk.now t c.requires.may.ready.unspent) (c.in-Ok.ensures.looks.looked t).0 c.name-item.result c.in-Ok.position
    (λ ls ps ahead. c.in-Ok.ensures.found t ls ps ahead)

pub returns-in-Ok-search-clause-refused : goal.returns-in-Ok-search-clause-refused
returns-in-Ok-search-clause-refused g c = λ t ne.
    let old = g.K.Blocks.view c.args.disk.now in
    let new = g.K.Blocks.view c.search-in-len2-up.new.disk in
    let n = c.name-item-2.result in
    let parts = path_of_two c.as_slice.result.now n c.in-len2-up.len_at_least c.name-item-2.is in
    let path : c.args.path.now ≡ n ∷ parts.0 ∷ parts.1 = sym c.as_slice.ensures.value ∙ parts.2 in
    ap (λ p. lookup_refusal (tree_under c.args.client.now old) p c.args.at_root) path
    ∙ (lost g.K.Blocks.told c.args.client.now old new t c.requires.may (g.met.K.Blocks.sound c.args.disk.now t c.requires.may.ready.unspent) (c.in-Ok-search.ensures.looks.looked t).0 n c.in-Ok-search.position
    (λ ls ps ahead. c.in-Ok-search.ensures.found t ls ps ahead) parts.0 parts.1
    ∙ ap (λ e. Some e) (sym c.no_way.ensures))
