use Rattle.std.proofs.Common.{get_or, ap, ◌∙◌, arith, refl, None}
use Rattle.pointer_table.proofs.Common.{get_or-set_other, rank, link_after}
use Rattle.pointer_table.proofs.ThreadLaws.{put_fields, heads_as_many, next_as_many_put}
use Rattle.pointer_table.proofs.threads.Threads.add_first.Goals as goal

pub returns : goal.returns
returns c =
    let t = c.args.self.now in
    let u = c.keep_end.new.self in
    let of = c.group-of.result in
    record {
      threads = λ held now more least threads.
          put_fields held now t.way u.way t.heads t.next u.heads u.next
          c.args.position of (rank (c.args.source, c.args.target)) (c.args.source, c.args.target) None
          threads more (λ k same. let low = least k (c.args.source, c.args.target) same in omega arith) c.ranges.target.fits c.requires.position c.requires.link c.requires.group
          c.group-of.ensures refl (λ j f m. let low = least j f m.here in omega arith)
          (c.keep_end.ensures.heads ∙ c.put-link.ensures.heads) (c.keep_end.ensures.next ∙ c.put-link.ensures.next)
          (c.keep_end.ensures.way ∙ c.put-link.ensures.way);
      way = c.keep_end.ensures.way ∙ c.put-link.ensures.way;
      groups = heads_as_many t.heads u.heads of None c.args.position (c.keep_end.ensures.heads ∙ c.put-link.ensures.heads);
      slots = next_as_many_put t.next u.next c.args.position (link_after t.heads t.next of None) None c.args.position
          (c.keep_end.ensures.next ∙ c.put-link.ensures.next);
      others = λ k off. ap (λ xs. get_or xs k 0) (c.keep_end.ensures.next ∙ c.put-link.ensures.next) ∙ get_or-set_other t.next c.args.position k (link_after t.heads t.next of None) 0 off;
    }
