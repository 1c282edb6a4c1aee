-- The section, put or not.
use Rattle.std.proofs.Common.{◌∙◌}
use Rattle.atac_commands.proofs.Inputs.{section_gives}
use Rattle.atac_commands.proofs.covering.Covering.cover_one.Goals as goal

pub returns : goal.returns
returns g c = λ P items has h.
    let f = c.in_ok-bytes.ensures in
    record {
      found = f.found;
      agrees = f.agrees;
      gives = section_gives (g.S.Shelf.state c.args.shelf.now) (g.S.Shelf.state c.fetch.new.shelf) (g.W.Sink.state c.args.out.now) (g.W.Sink.state c.put.new.out) c.args.input.now P items c.args.limit has _ f.found c.in_ok-bytes.bytes.items c.as_slice.result.now _ c.put.result c.as_slice.ensures.value f.gives c.put.ensures (c.as_slice-2.ensures.value ∙ c.in_ok-section.ensures.section P items has h) (c.in_ok-section.ensures.stands P items has h);
      says = f.says;
      shelf_grows = f.grows;
      out_grows = c.put.ensures.grows;
    }
