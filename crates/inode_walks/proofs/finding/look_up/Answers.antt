use Rattle.std.proofs.Common.{◌≡◌, ◌∷◌, ◌++◌, [], ◌∙◌, sym, subst, length, take, ◌-◌, ◌<◌, ◌≤◌}
use Rattle.inode_walks.proofs.Common.{no_look, looks_as, looks_refused, looks_but_refuses, tree_under}
use Rattle.inode_walks.proofs.FoundLaws.{last_of, no_name, place_lost, place_is}
use Rattle.inode_walks.proofs.finding.look_up.Goals as goal

pub find_directory-requires : goal.find_directory-requires
find_directory-requires g c = record { may = c.requires.may }

pub returns-in-empty : goal.returns-in-empty
returns-in-empty g c =
    let told = g.K.Blocks.told in
    let old = g.K.Blocks.view c.args.disk.now in
    record {
      named = c.as_slice.ensures.named;
      dir = tt;
      short = tt;
      found = λ t. tt;
      none = λ t. tt;
      refused = λ t ne. no_name (tree_under c.args.client.now old) c.args.path.now c.args.at_root (subst (λ p. length p < 1) c.as_slice.ensures.value c.in-empty.len_below);
      looks = looks_but_refuses told old old tt c.args.at_root c.requires.refusal
          (no_look told old c.requires.may.ready.unspent (λ t. g.met.K.Blocks.sound c.args.disk.now t c.requires.may.ready.unspent) c.requires.may.valid);
    }

pub returns-in-Err : goal.returns-in-Err
returns-in-Err g c =
    let told = g.K.Blocks.told in
    let old = g.K.Blocks.view c.args.disk.now in
    let new = g.K.Blocks.view c.find_directory.new.disk in
    let xs = c.as_slice.result.now in
    let whole : c.args.path.now ≡ take (length xs - 1) xs ++ c.last-item.result ∷ [] = sym c.as_slice.ensures.value ∙ last_of xs c.last-item.result c.in-len1-up.len_at_least c.last-item.is in
    record {
      named = c.as_slice.ensures.named;
      dir = tt;
      short = tt;
      found = λ t. tt;
      none = λ t. tt;
      refused = λ t ne. place_lost (tree_under c.args.client.now old) c.args.path.now (take (length xs - 1) xs) c.last-item.result c.args.at_root whole ∙ c.in-Err.ensures.refused t ne;
      looks = looks_refused told old new c.in-Err.refusal c.in-Err.ensures.looks;
    }

pub returns-in-Ok : goal.returns-in-Ok
returns-in-Ok g c =
    let told = g.K.Blocks.told in
    let old = g.K.Blocks.view c.args.disk.now in
    let new = g.K.Blocks.view c.find_directory.new.disk in
    let xs = c.as_slice.result.now in
    let whole : c.args.path.now ≡ take (length xs - 1) xs ++ c.last-item.result ∷ [] = sym c.as_slice.ensures.value ∙ last_of xs c.last-item.result c.in-len1-up.len_at_least c.last-item.is in
    let e = c.in-Ok.ensures in
    record {
      named = c.as_slice.ensures.named;
      dir = e.dir;
      short = subst (λ n. length n ≤ 28) (sym c.as_slice-name.ensures.value) c.as_slice-name.ensures.fits;
      found = λ t. place_is c.args.client.now new c.args.path.now (take (length xs - 1) xs) c.last-item.result _ whole c.as_slice-name.ensures.value (e.found t) c.entry-old.ensures;
      none = λ t. place_lost (tree_under c.args.client.now old) c.args.path.now (take (length xs - 1) xs) c.last-item.result c.args.at_root whole ∙ e.none t;
      refused = λ t. tt;
      looks = looks_as told old new c.in-Ok.directory _ e.looks;
    }
