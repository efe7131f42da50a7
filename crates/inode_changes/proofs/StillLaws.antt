-- What holds since before a look.
use Rattle.std.proofs.Common.{◌≡◌, suc, sym, subst, Option, None, Ok}
use Rattle.inode_changes.proofs.Common.{Path, at, node_at, inodes_under, inode_tree, FsRefusal, DiskView, IsValidNow, Client, OnlyLooks, may_again, Found, Lookup, lookup_refusal, stands_still, Grounds, Grows}
use Rattle.fs_trees.specs.declared.refusal.FsRefusal.TheVariants as no

-- what was read stands there still
pub grows_on : {Y : Type 0} {told : Type 0} {c : Client} {old new : DiskView} {path : Path} {lookup : Lookup} {file : Found} {y : Y} → OnlyLooks told old new (Ok y) → (told → IsValidNow old) → (told → Grows c old path lookup file) → told → Grows c new path lookup file
grows_on {c = c} {old = old} {new = new} {path = path} {lookup = lookup} {file = file} looks now grows t =
    let seen = (looks.looked t).0 in
    let x = grows t in
    record {
      grounds = subst (λ w. Grounds c.root w path lookup) (sym seen.world) x.grounds;
      may = may_again c old new lookup.directory.block seen looks.stays.0 (now t) x.may;
      found = record {
        more = x.found.more;
        levels = x.found.levels;
        stands = stands_still c old new x.found.more file seen looks.stays.0 (now t) x.found.stands;
        node = subst (λ w. at (inodes_under w c.root) path ≡ node_at w (suc x.found.more) file.block) (sym seen.world) x.found.node;
      };
      old = x.old;
      way = subst (λ w. ◌≡◌ {A = Option FsRefusal} (lookup_refusal (inode_tree w c.root) path no.IsDir) None) (sym seen.world) x.way;
    }
