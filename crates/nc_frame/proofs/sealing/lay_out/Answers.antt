use Rattle.std.proofs.Common.{rules, ◌≡◌, ◌++◌}
use Rattle.nc_name.specs.Keys.{key_text}
use Rattle.nc_frame.specs.Frames.{frame_front, laid_frame}
use Rattle.nc_frame.proofs.sealing.lay_out.Goals as goal

pub returns : goal.returns
unfolding laid_frame
returns c =
    let front : c.in_ok-front.front.items ++ c.args.payload
    ≡ frame_front c.args.cloud c.args.width (key_text c.args.key.now) c.args.payload =
    search rules in
    let bytes : c.in_ok-bytes.bytes
    ≡ frame_front c.args.cloud c.args.width (key_text c.args.key.now) c.args.payload =
    search rules in
    record {
      fits = record {
        cloud_fits = c.ranges.cloud.fits;
        width_fits = c.ranges.width.fits;
        key_fits = search rules;
        payload_fits = search rules;
        key_bytes = search rules;
        payload_bytes = search rules;
      };
      is_laid = search rules;
    }
