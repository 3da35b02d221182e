use Rattle.std.proofs.Common.{◌≡◌, length, arith, sym, ◌∙◌}
use Rattle.std.proofs.lemmas.Grind.{common_steps}
use Rattle.std.proofs.lemmas.List.Elements.{All-more}
use Rattle.sd_base.specs.declared.record.NewChunk.{NewChunk}
use Rattle.session_book.proofs.record_writer.chunks_len.Goals as goal

pub loop-chunk-preserved : goal.loop-chunk-preserved
loop-chunk-preserved c = record {
  spelled = grind (arith, common_steps);
  names = All-more (λ (chunk : NewChunk). length chunk.name ≡ 32) c.args.chunks.now c.loop-chunk.chunk-index _ c.loop-chunk-test.true c.loop-chunk.invariant.names (sym c.name_len.ensures.equals ∙ c.name_len.ensures.always);
  each = omega (arith, c.loop-chunk.invariant.each, c.name_len.ensures.always);
}
