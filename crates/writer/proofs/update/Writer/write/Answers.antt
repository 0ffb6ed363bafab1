use Rattle.std.proofs.Common.{◌≡◌, ◌+◌, ◌++◌, length, Some, ap, ◌∙◌}
use Rattle.format.specs.Writing.{object_bytes, runs, section_bytes, update_objects}
use Rattle.writer.specs.Drafts.{written}
use Rattle.writer.specs.Helds.{update_of}
use Rattle.writer.specs.Listing.{listed_at}
use Rattle.writer.specs.Plans.{all_made, plan_count, rows_of}
use Rattle.writer.proofs.Updates.{size_is_fact, objects_are, section_is, update_is}
use Rattle.writer.proofs.update.Writer.write.Goals as goal

pub returns : goal.returns
returns c = λ file v t p read.
    let u = update_of c.args.held.now in
    let cs = c.args.newest.now.cells.now in
    let len = c.args.newest.now.len in
    let size = length cs + c.new_numbers.result in
    let plan = rows_of c.write_objects.new.self.plan in
    let objects = c.len-objects.result in
    let w = c.write_objects.ensures.writes file in
    let s = c.write_section.ensures v.trailer read in
    let e = size_is_fact file cs v u size t (ap (λ k. length cs + k) c.new_numbers.ensures.is) in
    let o : object_bytes 0 (all_made file cs u len size) ≡ update_objects len v u = objects_are file cs v u len size t e in
    let first : written c.write_objects.new.self.draft ≡ update_objects len v u = w.bytes.bytes ∙ ap (λ xs. xs ++ object_bytes 0 (all_made file cs u len size)) c.clear.ensures.bytes ∙ o in
    let count_is : objects ≡ length (update_objects len v u) = c.len-objects.ensures ∙ ap length first in
    let rows : plan ≡ _ = w.rows in
    let many : plan_count c.write_objects.new.self.plan ≡ size = c.write_objects.ensures.count in
    let section = section_is file cs v u len size (len + objects) c.args.newest.now.offset plan t e rows (ap (λ i. len + i) count_is) p in (
      s.bytes
          ∙ update_is len v u (written c.write_objects.new.self.draft) _ first
          (ap (λ i. section_bytes (len + objects) (runs 0 (listed_at plan 0)) v.trailer i (Some c.args.newest.now.offset)) many ∙ section),
      count_is,
    )
