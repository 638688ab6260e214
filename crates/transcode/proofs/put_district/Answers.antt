-- `transcode::put_district` meets its contract.
use lib.ListN.{replicate, length-replicate}
use Rattle.base.specs.Text.{Put}
use Rattle.rules.specs.File.{encode, longest_file}
use Rattle.base.proofs.Text.{put_within, put_part}
use Rattle.base.proofs.Text.{put_taken}
use Rattle.transcode.proofs.Framed.{file_put}
use Rattle.transcode.proofs.put_district.Goals as goal
use Rattle.transcode.proofs.put_district.Goals.{After-unwrap-n}

-- the export has room, and puts the file
filed : (c : After-unwrap-n) → Put (encode c.args.d.now) (replicate longest_file 0) c.export.new.buffer c.unwrap-n.result
filed c =
    let e = c.export in
    (file_put c.args.d.now (replicate longest_file 0) e.new.buffer e.result (rw (length-replicate) c.requires.1) e.ensures).1 _ c.unwrap-n.ensures

pub unwrap-n-requires : goal.unwrap-n-requires
unwrap-n-requires c = (file_put c.args.d.now (replicate longest_file 0) c.export.new.buffer c.export.result (rw (length-replicate) c.requires.1) c.export.ensures).0

pub slice_bounds-file-end : goal.slice_bounds-file-end
slice_bounds-file-end c = put_within (filed (goal.at.slice_bounds-file-end c).After-unwrap-n)

pub slice_bounds-put_framed-end : goal.slice_bounds-put_framed-end
slice_bounds-put_framed-end c = put_part (filed (goal.at.slice_bounds-put_framed-end c).After-unwrap-n)

pub returns : goal.returns
returns c = rw (← put_taken (filed (goal.at.returns c).After-unwrap-n)) c.put_framed.ensures
