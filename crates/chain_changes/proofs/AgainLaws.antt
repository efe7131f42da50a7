-- A call that begins where others only looked before.
use Rattle.std.proofs.Common.{◌≡◌, ℕ, List, ◌∙◌, ap, Ok}
use Rattle.chain_changes.proofs.Common.{is_there, chains_under, chain_tree, DiskView, Client, OnlyLooks, ready_still, Part, MayAsk, mounted_by, IsFileOf, IsLastCluster, IsLastOf}

-- the client may ask still
pub may_ask_again : {X : Type 0} (told : Type 0) (c : Client) (first rd : DiskView) (x : X) → OnlyLooks told first rd (Ok x) → MayAsk told c first → MayAsk told c rd
may_ask_again told c first rd x looks may = record {
  ready = ready_still (mounted_by c) first rd looks.stays.0 looks.counts looks.unspent.0 may.ready;
  valid = λ t. (looks.looked t).0.valid;
  tree = λ t. ap (λ w. is_there (chain_tree w c.root)) (looks.looked t).0.world ∙ may.tree t;
}

pub last_of_file : (c : Client) (mid rd : DiskView) (path : List (List ℕ)) (b : ℕ) (part : Part) (found : IsFileOf c mid path b) → rd.world ≡ mid.world → IsLastCluster c rd found.file.chain part → IsLastOf c rd path part
last_of_file c mid rd path b part found same last = record {
  chains = found.chains;
  under = ap (λ w. chains_under w c.root) same ∙ found.under;
  front = found.front;
  file = found.file;
  back = found.back;
  among = found.among;
  named = found.named;
  last = last;
}
