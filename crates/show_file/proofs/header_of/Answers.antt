use Rattle.std.proofs.Common.{le-leb, eq-eqb, ne_eqb, sym, ◌∙◌}
use Rattle.show_file.specs.Show.{headed}
use Rattle.show_file.proofs.Laws.{bytes_are}
use Rattle.show_file.proofs.header_of.Goals as goal

pub returns-then-file-record_length : goal.returns-then-file-record_length
unfolding headed
returns-then-file-record_length c =
    let e = bytes_are c.args.file.now _ _ c.u16_at-version.ensures c.record_length.ensures.value in
    rw (
      le-leb _ _ c.if-file-lt-HEADER_LENGTH.false,
      ← c.u16_at-version.ensures,
      sym c.counts_of.ensures ∙ c.in-Some.is,
      e,
      ← c.u16_at-count.ensures,
      sym c.is_count.ensures ∙ c.if-not-is_count.false,
      ne_eqb _ _ c.if-file-record_length.true,
    )

pub returns : goal.returns
unfolding headed
returns c =
    let e = bytes_are c.args.file.now _ _ c.u16_at-version.ensures c.record_length.ensures.value in
    rw (
      le-leb _ _ c.if-file-lt-HEADER_LENGTH.false,
      ← c.u16_at-version.ensures,
      sym c.counts_of.ensures ∙ c.in-Some.is,
      e,
      ← c.u16_at-origin.ensures,
      ← c.u16_at-count.ensures,
      sym c.is_count.ensures ∙ c.if-not-is_count.false,
      eq-eqb _ _ c.if-file-record_length.false,
    )
