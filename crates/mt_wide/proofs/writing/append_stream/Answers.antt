use Rattle.mt_wide.proofs.StreamLemmas.{marks_count, stream_appended}
use Rattle.mt_wide.proofs.writing.append_stream.Goals as goal

pub finish-requires-clause-complete : goal.finish-requires-clause-complete
finish-requires-clause-complete c = marks_count c.args.stream_index c.args.streams.now c.args.granules.now c.in_ok-unfinished.unfinished c.requires c.in_ok-unfinished.ensures

pub returns : goal.returns
returns c =
    stream_appended c.args.stream_index c.args.streams.now c.args.granules.now c.args.name.now _ _ c.in_ok-unfinished.unfinished c.in_ok-written.written _ _ _ c.requires c.in_ok-unfinished.ensures c.in_ok-written.ensures
    c.in_ok-with_ending.ensures c.in_ok-with_ending-2.ensures c.in_ok-append_file.ensures c.in_ok-append_file-2.ensures
